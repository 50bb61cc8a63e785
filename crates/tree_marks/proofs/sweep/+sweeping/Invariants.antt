use Rattle.std.proofs.Common.{◌+◌, ◌*◌, take}
use Rattle.node_tree.specs.Forest.{size}
use Rattle.node_tree.specs.Tree.{children_at, subtree_at}
use Rattle.tree_marks.specs.Sweep.{above_of, in_slots, SweepsTrees}
use Rattle.tree_marks.proofs.sweep.+sweeping.Given as goal

-- first a node itself, and then what is below it
abbrev pub decreases-sweep_at : goal.decreases-sweep_at
decreases-sweep_at g l = 2 * size (subtree_at l.tree.now l.h) + 1

abbrev pub decreases-sweep_below : goal.decreases-sweep_below
decreases-sweep_below g l = 2 * size (subtree_at l.tree.now l.h)

-- the first children are swept
abbrev pub invariant-sweep_below-loop-i : goal.invariant-sweep_below-loop-i
invariant-sweep_below-loop-i g l = SweepsTrees g.M.Marks.marking l.also (in_slots l.slots) (above_of l.place) (take l.i (children_at l.fn.tree l.h)) l.fn.tree l.tree l.found
