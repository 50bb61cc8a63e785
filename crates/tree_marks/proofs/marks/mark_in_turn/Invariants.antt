use Rattle.std.proofs.Common.{take}
use Rattle.tree_marks.proofs.MarkEach.{Marked}
use Rattle.tree_marks.proofs.marks.mark_in_turn.Given as goal

abbrev pub invariant-loop-h : goal.invariant-loop-h
invariant-loop-h g l = Marked g.M.Marks.marking g.M.Marks.lawful l.also l.fn.tree l.tree (take l.h-index l.hs)
