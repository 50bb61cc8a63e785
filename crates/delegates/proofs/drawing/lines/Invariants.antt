use Rattle.std.proofs.Common.{◌≡◌}
use Rattle.delegates.specs.Answers.{lines_of}
use Rattle.delegates.proofs.drawing.lines.Given as goal

abbrev pub invariant-loop-k : goal.invariant-loop-k
invariant-loop-k l = l.drawn.items ≡ lines_of l.size l.step l.color l.k
