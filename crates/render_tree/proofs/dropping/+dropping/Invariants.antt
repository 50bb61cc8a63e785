use Rattle.std.proofs.Common.{◌+◌, ◌*◌, take}
use Rattle.node_tree.specs.Forest.{size}
use Rattle.node_tree.specs.Tree.{children_at, subtree_at}
use Rattle.render_tree.specs.Users.{Drops, is_at_or_below}
use Rattle.render_tree.proofs.dropping.+dropping.Given as goal

-- first a node itself, and then what is below it
abbrev pub decreases-drop_at : goal.decreases-drop_at
decreases-drop_at l = 2 * size (subtree_at l.tree.now l.h) + 1

abbrev pub decreases-drop_below : goal.decreases-drop_below
decreases-drop_below l = 2 * size (subtree_at l.tree.now l.h)

-- the users at and below the first children are gone
abbrev pub invariant-drop_below-loop-child : goal.invariant-drop_below-loop-child
invariant-drop_below-loop-child l = Drops l.tree (is_at_or_below l.tree (take l.child-index (children_at l.tree l.fn.h))) l.fn.users l.users
