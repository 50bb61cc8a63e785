use Rattle.std.proofs.Common.{◌≡◌}
use Rattle.tree_marks.proofs.MarkSteps.{Goes}
use Rattle.tree_marks.proofs.marks.mark.Given as goal

abbrev pub invariant-loop-i : goal.invariant-loop-i
invariant-loop-i g l = (l.i-end ≡ l.climb.steps) × Goes g.M.Marks.marking g.M.Marks.lawful l.fn.tree l.tree l.fn.h l.next l.below l.also l.i
