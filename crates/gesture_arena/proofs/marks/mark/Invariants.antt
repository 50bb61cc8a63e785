use Rattle.std.proofs.Common.{take}
use Rattle.gesture_arena.specs.Marks.{AreMarked}
use Rattle.gesture_arena.proofs.marks.mark.Given as goal

abbrev pub invariant-loop-member : goal.invariant-loop-member
invariant-loop-member l = AreMarked (take l.member-index l.gone) l.marks
