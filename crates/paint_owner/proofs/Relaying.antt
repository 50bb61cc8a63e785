-- A layout lists what it changes for painting.
use Rattle.std.proofs.Common.{◌≡◌, Bool, true, false, ◌||◌, Option, Some, None, option_map, List, [], ◌∷◌, refl, ap, sym, ◌∙◌, subst, inl, inr, true≢false}
use Rattle.fx_handles.specs.declared.Handle.{Handle}
use Rattle.fx_handles.specs.Handle.{same, times}
use Rattle.fx_handles.specs.HandleLaws.{cases_same, same-eq, times_there}
use Rattle.fx_geom.specs.declared.shapes.Size.{Size}
use Rattle.delegates.specs.Table.{Plug}
use Rattle.node_tree.specs.Forest.{TreeNode, Forest, SameShape, map_values}
use Rattle.node_tree.specs.Forest.Forest.{none, tree}
use Rattle.node_tree.specs.Tree.{Tree, node_at, parent_of, tops_at, Is, IsTree}
use Rattle.node_tree.proofs.Children.{mapped_is}
use Rattle.node_tree.proofs.ForestLemmas.{same_Some}
use Rattle.node_tree.proofs.TreeLemmas.{parent_lists}
use Rattle.tree_marks.specs.Marks.{listed}
use Rattle.render_tree.specs.LayoutState.{with_layout_state}
use Rattle.render_tree.specs.Object.{RenderObject, object_look}
use Rattle.render_tree.specs.Plain.{frame_or, offset_or}
use Rattle.render_tree.specs.Tree.{object_at}
use Rattle.kept_layers.specs.Group.{is_boundary}
use Rattle.kept_layers.specs.Repainted.{KeepsPaint, CarriesPaint, ListsChanges}
use Rattle.kept_layers.proofs.RootTrees.{inside_shape}
use Rattle.paint_owner.specs.Relaid.{IsRelaid}

unlisted_times : (h : Handle) (hs : List Handle) → listed h hs ≡ false → times h hs ≡ 0
unlisted_times h [] e = refl
unlisted_times h (c ∷ cs) e = elim (cases_same c h) [
  | inl is ↦ absurd (true≢false (sym (ap (λ b. b || listed h cs) (same-eq h c (sym is))) ∙ e))
  | inr ne ↦ times_there h c cs ne ∙ unlisted_times h cs (off (same h c) (listed h cs) e)
]
  where
    off : (a b : Bool) → (a || b) ≡ false → b ≡ false
    off true b f = absurd (true≢false f)
    off false b f = f

map_shape : (g : Handle → RenderObject → RenderObject) (f : Forest RenderObject) → SameShape f (map_values g f)
map_shape g none = tt
map_shape g (tree h o below rest) = (refl, map_shape g below, map_shape g rest)

module _ (old laid : Tree RenderObject) (changed : List Handle) (r : IsRelaid old laid changed) where
  write : Handle → RenderObject → RenderObject
  write k o = with_layout_state (r.left k) o

  same_tops : tops_at laid ≡ tops_at old
  same_tops = λ i. tops_at (record { nodes = laid.nodes; root = r.root i; inactive = r.inactive i })

  pub relaid_tree : IsTree old → IsTree laid
  unfolding write
  relaid_tree (f, is) = (map_values write f, mapped_is write old laid f is r.nodes same_tops)

  module _ (cell : Size) (delegates : List Plug) (also : Bool) (f : Forest RenderObject) (is_old : Is old f) where
    written : Handle → TreeNode RenderObject → TreeNode RenderObject
    written k n = record n { value = with_layout_state (r.left k) n.value }

    keeps : (k : Handle) (n : TreeNode RenderObject) → node_at old k ≡ Some n → KeepsPaint cell delegates delegates also changed k n (written k n)
    unfolding written
    keeps k n at_old =
        let object : object_at old k ≡ Some n.value = ap (option_map (λ (x : TreeNode RenderObject). x.value)) at_old in
        record {
          flag = refl;
          mark = refl;
          drawn = λ u.
              let same_frame = r.frames k n.value object (unlisted_times k changed u) in
              (λ i. record { look = object_look n.value; frame = frame_or (same_frame i) });
          draws = λ u p. refl;
          placed = λ p up u.
              let place = r.places p k n.value object (parent_lists old f k p is_old (ap parent_of at_old ∙ up)).1 (unlisted_times p changed u) in
              (λ i. record { offset = offset_or (place.offset i); shown = place.shown i; apart = is_boundary n.value });
          children = λ u. refl;
        }

    at_node : (k : Handle) (is : TreeNode RenderObject) (n : Option (TreeNode RenderObject)) → node_at old k ≡ n → node_at laid k ≡ Some is → CarriesPaint cell delegates delegates also changed k n is
    unfolding written
    at_node k is None e at_laid = absurd (let gone = ap (option_map (written k)) (sym e) ∙ sym (r.nodes k) ∙ at_laid in cc)
    at_node k is (Some n) e at_laid =
        subst (KeepsPaint cell delegates delegates also changed k n) (same_Some (ap (option_map (written k)) (sym e) ∙ sym (r.nodes k) ∙ at_laid)) (keeps k n e)

    pub relaid_lists : ListsChanges cell delegates delegates also changed old laid
    unfolding write
    relaid_lists = record {
      nodes = λ k is at_laid. at_node k is (node_at old k) refl at_laid;
      root = λ h e u. sym r.root ∙ e;
      inside = λ h inside live. inside_shape old laid f (map_values write f) is_old (mapped_is write old laid f is_old r.nodes same_tops) r.root (map_shape write f) h inside;
    }
