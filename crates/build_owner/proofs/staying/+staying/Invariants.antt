-- What is planned so far of a node's children, with what is left to plan, is all.
use Rattle.std.proofs.Common.{◌≡◌, ◌+◌, ◌*◌, ◌++◌, Bool, Some}
use Rattle.fx_handles.specs.declared.Handle.{Handle}
use Rattle.fx_handles.specs.Handle.{same}
use Rattle.indexmap.specs.IndexSet.{contains_by}
use Rattle.node_tree.specs.Forest.{tops, below, skip, size}
use Rattle.node_tree.specs.Plan.{entries}
use Rattle.node_tree.specs.Tree.{subtree_at}
use Rattle.build_owner.specs.Staying.{left_of, left_items}
use Rattle.build_owner.proofs.staying.+staying.Given as goal

abbrev pub decreases-stay_below : goal.decreases-stay_below
decreases-stay_below l = 2 * size (subtree_at l.r.now.tree l.h)

abbrev pub decreases-stay_at : goal.decreases-stay_at
decreases-stay_at l = 2 * size (subtree_at l.r.now.tree l.h) + 1

abbrev pub invariant-stay_below-loop-child : goal.invariant-stay_below-loop-child
invariant-stay_below-loop-child l =
    let named : Handle → Bool = λ k. contains_by (same k) l.named in
    let left = left_of named (skip l.child-index (below (subtree_at l.r.tree l.fn.h))) in
    let all = left_items l.r.tree named l.fn.h in
    (l.children.items ++ tops left ≡ tops all) × (l.out.items ++ entries (Some l.fn.h) left ≡ l.fn.out.items ++ entries (Some l.fn.h) all)
