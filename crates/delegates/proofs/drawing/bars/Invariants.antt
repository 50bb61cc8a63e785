use Rattle.std.proofs.Common.{◌≡◌}
use Rattle.delegates.specs.Answers.{bars_of}
use Rattle.delegates.proofs.drawing.bars.Given as goal

abbrev pub invariant-loop-i : goal.invariant-loop-i
invariant-loop-i l = l.drawn.items ≡ bars_of l.size l.n l.color l.i
