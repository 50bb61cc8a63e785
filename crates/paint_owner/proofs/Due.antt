-- Where all is to be painted, whatever is kept is fresh.
use Rattle.std.proofs.Common.{◌≡◌, ℕ, zero, suc, true, Option, Some, None, option_map, List, [], ◌∷◌, refl, sym, ap, ◌∙◌, true≢false}
use Rattle.fx_handles.specs.declared.Handle.{Handle}
use Rattle.fx_handles.specs.Arena.{used_count}
use Rattle.fx_geom.specs.declared.shapes.Size.{Size}
use Rattle.delegates.specs.Table.{Plug}
use Rattle.node_tree.specs.Forest.{TreeNode, Forest, plain, plain_node}
use Rattle.node_tree.specs.Forest.Forest.{none, tree}
use Rattle.node_tree.specs.Tree.{Tree, node_at}
use Rattle.render_tree.specs.Object.{RenderObject}
use Rattle.render_tree.specs.Plain.{root_below, root_tree}
use Rattle.kept_layers.specs.KeptLayers.{KeptLayers, IsFresh, IsMarked}
use Rattle.paint_owner.specs.Due.{AllDue}
use Rattle.paint_owner.specs.PaintOwner.{PaintOwner, kept_of, IsRootFresh, IsKept}

-- each node of a forest has the flag and the mark
IsDue : Forest RenderObject → Type 0
IsDue none = Unit {0}
IsDue (tree h o below rest) = ((o.needs_paint ≡ true) × (o.paint_below ≡ true)) × IsDue below × IsDue rest

due_plain : (t : Tree RenderObject) → AllDue t → (n : ℕ) (hs : List Handle) → IsDue (plain n (node_at t) hs)
unfolding plain IsDue
due_plain t due zero hs = tt
due_plain t due (suc n) [] = tt
due_plain t due (suc n) (h ∷ hs) = at_node (λ ks. due_plain t due n ks) (node_at t h) refl
  where
    at_node : ((ks : List Handle) → IsDue (plain n (node_at t) ks)) → (o : Option (TreeNode RenderObject)) → node_at t h ≡ o → IsDue (plain_node h o (plain n (node_at t)) hs)
    at_node all None e = tt
    at_node all (Some v) e = (due h v.value (ap (option_map (λ (x : TreeNode RenderObject). x.value)) e), all v.children, all hs)

due_root : (t : Tree RenderObject) → AllDue t → (r : Option Handle) → IsDue (root_below t r)
unfolding IsDue
due_root t due None = tt
due_root t due (Some r) = due_plain t due (used_count t.nodes) (r ∷ [])

module _ (cell : Size) (delegates : List Plug) where
  due_fresh : (s : KeptLayers) (f : Forest RenderObject) → IsDue f → IsFresh cell delegates s f
  unfolding IsDue
  due_fresh s none due = tt
  due_fresh s (tree h o below rest) due = (
    (λ is calm. absurd (true≢false (sym due.0.0 ∙ calm))),
    due_fresh s below due.1,
    due_fresh s rest due.2,
  )

  due_top : (o : PaintOwner) (f : Forest RenderObject) → IsDue f → IsRootFresh cell delegates o f
  unfolding IsDue
  due_top o none due = tt
  due_top o (tree h v below rest) due = λ calm. absurd (true≢false (sym due.0.0 ∙ calm))

  due_marked : (f : Forest RenderObject) → IsDue f → IsMarked f
  unfolding IsDue
  due_marked none due = tt
  due_marked (tree h o below rest) due = ((λ e. absurd (true≢false (sym due.0.1 ∙ e))), due_marked below due.1, due_marked rest due.2)

  pub due_kept : (o : PaintOwner) (t : Tree RenderObject) → AllDue t → IsKept cell delegates o (root_tree t)
  due_kept o t due =
      let all = due_root t due t.root in
      record { boundaries = due_fresh (kept_of o) (root_tree t) all; root = due_top o (root_tree t) all; marks = due_marked (root_tree t) all }
