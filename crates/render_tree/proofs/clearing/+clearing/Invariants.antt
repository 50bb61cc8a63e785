use Rattle.std.proofs.Common.{◌+◌, ◌*◌, take}
use Rattle.node_tree.specs.Forest.{size}
use Rattle.node_tree.specs.Tree.{children_at, subtree_at}
use Rattle.render_tree.specs.Users.{is_at_or_below}
use Rattle.render_tree.specs.Ranges.{Clears}
use Rattle.render_tree.proofs.clearing.+clearing.Given as goal

-- first a node itself, and then what is below it
abbrev pub decreases-clear_at : goal.decreases-clear_at
decreases-clear_at l = 2 * size (subtree_at l.tree.now l.h) + 1

abbrev pub decreases-clear_below : goal.decreases-clear_below
decreases-clear_below l = 2 * size (subtree_at l.tree.now l.h)

-- nothing is left at and below the first children
abbrev pub invariant-clear_below-loop-i : goal.invariant-clear_below-loop-i
invariant-clear_below-loop-i l = Clears l.fn.tree l.tree (is_at_or_below l.fn.tree (take l.i (children_at l.fn.tree l.h)))
