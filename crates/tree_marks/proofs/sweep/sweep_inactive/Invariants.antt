use Rattle.std.proofs.Common.{take}
use Rattle.tree_marks.specs.Sweep.{above_of, in_slots, SweepsTrees}
use Rattle.tree_marks.proofs.sweep.sweep_inactive.Given as goal

-- the first subtrees are swept
abbrev pub invariant-loop-i : goal.invariant-loop-i
invariant-loop-i g l = SweepsTrees g.M.Marks.marking l.also (in_slots l.slots) (above_of l.place) (take l.i l.fn.tree.inactive) l.fn.tree l.tree l.found
