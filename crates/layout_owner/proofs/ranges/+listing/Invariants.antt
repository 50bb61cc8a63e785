-- What is found so far of the children, with what is left to find, is all.
use Rattle.std.proofs.Common.{◌≡◌, ◌+◌, ◌*◌, ◌++◌}
use Rattle.node_tree.specs.Forest.{below, skip, size}
use Rattle.node_tree.specs.Tree.{subtree_at}
use Rattle.layout_owner.specs.Ranges.{lists_in_window}
use Rattle.layout_owner.proofs.ranges.+listing.Given as goal

abbrev pub decreases-list_below : goal.decreases-list_below
decreases-list_below l = 2 * size (subtree_at l.r.now.tree l.h)

abbrev pub decreases-list_at : goal.decreases-list_at
decreases-list_at l = 2 * size (subtree_at l.r.now.tree l.h) + 1

abbrev pub invariant-list_below-loop-child : goal.invariant-list_below-loop-child
invariant-list_below-loop-child l =
    l.lists.items ++ lists_in_window (skip l.child-index (below (subtree_at l.r.tree l.fn.h))) ≡ l.fn.lists.items ++ lists_in_window (below (subtree_at l.r.tree l.fn.h))
