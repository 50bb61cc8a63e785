-- Whether a list is in what is left below is whether one is in all.
use Rattle.std.proofs.Common.{◌≡◌}
use Rattle.node_tree.specs.Forest.{below, skip, size}
use Rattle.node_tree.specs.Tree.{subtree_at}
use Rattle.frame_owner.specs.Nodes.{lists_among}
use Rattle.frame_owner.proofs.settling.+listing.Given as goal

abbrev pub decreases-has_lists : goal.decreases-has_lists
decreases-has_lists l = size (subtree_at l.tree.now.tree l.h)

abbrev pub invariant-loop-child : goal.invariant-loop-child
invariant-loop-child l = lists_among (skip l.child-index (below (subtree_at l.tree.tree l.fn.h))) ≡ lists_among (subtree_at l.tree.tree l.fn.h)
