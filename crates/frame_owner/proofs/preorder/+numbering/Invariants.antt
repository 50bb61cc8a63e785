-- What is added so far, with what is left below, is all.
use Rattle.std.proofs.Common.{◌≡◌, ◌++◌}
use Rattle.node_tree.specs.Forest.{below, skip, size}
use Rattle.node_tree.specs.Tree.{subtree_at}
use Rattle.frame_owner.specs.Nodes.{element_numbers}
use Rattle.frame_owner.proofs.preorder.+numbering.Given as goal

abbrev pub decreases-push_numbers : goal.decreases-push_numbers
decreases-push_numbers l = size (subtree_at l.tree.now.tree l.h)

abbrev pub invariant-loop-child : goal.invariant-loop-child
invariant-loop-child l =
    l.numbers.items ++ element_numbers (skip l.child-index (below (subtree_at l.tree.tree l.fn.h)))
    ≡ l.fn.numbers.items ++ element_numbers (subtree_at l.tree.tree l.fn.h)
