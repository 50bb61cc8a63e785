-- What is kept of layers stays fresh where a tree was laid out and the nodes were marked that don't look as before.
use Rattle.std.proofs.Common.{◌≡◌, ap, refl, sym, subst, ◌∙◌, Bool, true, false, Option, Some, None, option_map, List, [], ◌∷◌, ◌++◌}
use Rattle.std.proofs.lemmas.Bool.{or_parts}
use Rattle.std.specs.Option.{option_to_list}
use Rattle.fx_geom.specs.declared.shapes.Size.{Size}
use Rattle.fx_handles.specs.declared.Handle.{Handle}
use Rattle.fx_handles.specs.Handle.{same, times}
use Rattle.fx_handles.specs.HandleLaws.{same_self, times_there}
use Rattle.fx_handles.specs.ArenaLaws.{same_Some}
use Rattle.delegates.specs.Table.{Plug}
use Rattle.node_tree.specs.Forest.{TreeNode, In, map_values}
use Rattle.node_tree.specs.Tree.{Tree, IsTree, node_at, parent_of, tops_at}
use Rattle.node_tree.proofs.Children.{mapped_is}
use Rattle.node_tree.proofs.TreeLemmas.{parent_lists}
use Rattle.tree_marks.specs.Marks.{listed}
use Rattle.render_tree.specs.LayoutState.{layout_state_of, with_layout_state}
use Rattle.render_tree.specs.Marked.{SetsMarks}
use Rattle.render_tree.specs.Marks.{paint_marks}
use Rattle.render_tree.specs.Object.{RenderObject, object_look}
use Rattle.render_tree.specs.Plain.{frame_or, offset_or, root_tree}
use Rattle.render_tree.specs.Tree.{object_at}
use Rattle.render_tree.specs.declared.layout_state.LayoutState.{LayoutState}
use Rattle.layout_rules.specs.Painting.{KeepsRest, PaintedOwn, PaintedPlace, own_in, place_in, PaintsAnew}
use Rattle.layout_rules.specs.Reads.{state_or, state_at}
use Rattle.kept_layers.specs.Group.{is_boundary}
use Rattle.kept_layers.specs.Repainted.{KeepsPaint, CarriesPaint, ListsChanges}
use Rattle.kept_layers.specs.Unmarked.{placed_of, drawn_of}
use Rattle.paint_owner.specs.PaintOwner.{PaintOwner, IsKept}
use Rattle.render_sync.specs.Numbering.{number_at}
use Rattle.screen_owner.proofs.Indexing.{paints_built, same_numbers}
use Rattle.screen_owner.proofs.Showing.{root_forest}

-- a node that isn't listed isn't counted in the list
uncounted : (k : Handle) (hs : List Handle) → listed k hs ≡ false → times k hs ≡ 0
uncounted k [] off = refl
uncounted k (h ∷ hs) off =
    let two = or_parts (same k h) (listed k hs) off in
    times_there k h hs (λ e. true_false (sym (same_self k) ∙ (ap (same k) (sym e) ∙ two.0))) ∙ uncounted k hs two.1
  where
    true_false : true ≡ false → ⊥
    true_false e = cc

-- what was laid out, as it is stored
abbrev now : LayoutState → TreeNode RenderObject → TreeNode RenderObject
now u n = record n { value = with_layout_state u n.value }

module _ (cell : Size) (delegates : List Plug) (old new : Tree RenderObject) (is : IsTree old) (alone : old.inactive ≡ []) (p : PaintsAnew old new) where
  -- the state of a node that is stored
  state_is : (t : Tree RenderObject) (k : Handle) (o : RenderObject) → object_at t k ≡ Some o → state_at t k ≡ layout_state_of o
  state_is t k o at = ap state_or at

  own_same : (k : Handle) (was : TreeNode RenderObject) → node_at old k ≡ Some was → listed k p.changed ≡ false → own_in (state_at p.laid k) ≡ own_in (layout_state_of was.value)
  own_same k was at off =
      (p.repaints.same k (uncounted k p.changed off)).own ∙ ap own_in (state_is old k was.value (ap (option_map (λ (n : TreeNode RenderObject). n.value)) at))

  drawn_same : (k : Handle) (was : TreeNode RenderObject) → node_at old k ≡ Some was → listed k p.changed ≡ false → drawn_of (with_layout_state (state_at p.laid k) was.value) ≡ drawn_of was.value
  drawn_same k was at off = ap (λ (x : PaintedOwn). record { look = object_look was.value; frame = frame_or x.frame }) (own_same k was at off)

  placed_same : (k : Handle) (was : TreeNode RenderObject) → node_at old k ≡ Some was → (q : Handle) → was.parent ≡ Some q → listed q p.changed ≡ false
      → placed_of (with_layout_state (state_at p.laid k) was.value) ≡ placed_of was.value
  placed_same k was at q parent off =
      let above = parent_lists old is.0 k q is.1 (ap parent_of at ∙ parent) in
      ap (λ (x : PaintedPlace). record { offset = offset_or x.offset; shown = x.shown; apart = is_boundary was.value })
      ((p.repaints.same q (uncounted q p.changed off)).places k above.1 ∙ ap place_in (state_is old k was.value (ap (option_map (λ (n : TreeNode RenderObject). n.value)) at)))

  carried : (k : Handle) (n : TreeNode RenderObject) → node_at p.laid k ≡ Some n → CarriesPaint cell delegates delegates true p.changed k (node_at old k) n
  carried k n there = by_node (node_at old k) refl (sym (p.rest.nodes k) ∙ there)
    where
      keeps : (was : TreeNode RenderObject) → node_at old k ≡ Some was → KeepsPaint cell delegates delegates true p.changed k was (now (state_at p.laid k) was)
      keeps was at = record {
        flag = refl;
        mark = refl;
        drawn = drawn_same k was at;
        draws = λ off q. refl;
        placed = λ q parent off. placed_same k was at q parent off;
        children = λ off. refl;
      }

      by_node : (x : Option (TreeNode RenderObject)) → node_at old k ≡ x → option_map (now (state_at p.laid k)) x ≡ Some n → CarriesPaint cell delegates delegates true p.changed k x n
      by_node None e is_n = absurd (cc)
      by_node (Some was) e is_n = subst (KeepsPaint cell delegates delegates true p.changed k was) (same_Some is_n) (keeps was e)

  laid_tree : IsTree p.laid
  laid_tree =
      let tops : tops_at p.laid ≡ tops_at old = λ i. option_to_list (p.rest.root i) ++ p.rest.inactive i in
      (map_values (λ k o. with_layout_state (state_at p.laid k) o) is.0, mapped_is (λ k o. with_layout_state (state_at p.laid k) o) old p.laid is.0 is.1 p.rest.nodes tops)

  lists : ListsChanges cell delegates delegates true p.changed old p.laid
  lists = record {
    nodes = carried;
    root = λ r at off. sym p.rest.root ∙ at;
    inside = λ h there live. subst (In h) (sym (root_forest old is.0 alone is.1)) (is.1.whole h live);
  }

  pub laid_kept : (o : PaintOwner)
      → ((also : Bool) (hs : List Handle) (mid : Tree RenderObject) → IsTree mid → ListsChanges cell delegates delegates also hs old mid → SetsMarks paint_marks also hs mid new
      → IsKept cell delegates o (root_tree old) → IsKept cell delegates o (root_tree new))
      → IsKept cell delegates o (root_tree old) → IsKept cell delegates o (root_tree new)
  laid_kept o law kept = law true p.changed p.laid laid_tree lists p.marks kept

-- ---- the numbers

number_rest : (old laid : Tree RenderObject) → KeepsRest old laid → (k : Handle) → number_at laid k ≡ number_at old k
number_rest old laid rest k = ap (λ (x : Option (TreeNode RenderObject)). option_map (λ (o : RenderObject). o.number) (option_map (λ (n : TreeNode RenderObject). n.value) x)) (rest.nodes k) ∙ by_node (node_at old k)
  where
    by_node : (x : Option (TreeNode RenderObject)) → option_map (λ (o : RenderObject). o.number) (option_map (λ (n : TreeNode RenderObject). n.value) (option_map (now (state_at laid k)) x))
        ≡ option_map (λ (o : RenderObject). o.number) (option_map (λ (n : TreeNode RenderObject). n.value) x)
    by_node None = refl
    by_node (Some n) = refl

pub laid_numbers : (old new : Tree RenderObject) → PaintsAnew old new → (k : Handle) → number_at new k ≡ number_at old k
laid_numbers old new p k = same_numbers p.laid new (paints_built true p.changed p.laid new p.marks) k ∙ number_rest old p.laid p.rest k

-- ---- the rest of it

pub laid_alone : (old new : Tree RenderObject) → PaintsAnew old new → old.inactive ≡ [] → new.inactive ≡ []
laid_alone old new p alone = p.marks.inactive ∙ (p.rest.inactive ∙ alone)
