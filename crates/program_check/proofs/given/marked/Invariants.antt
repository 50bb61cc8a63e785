use Rattle.program_check.proofs.GivenLemmas.{MarkedSoFar}
use Rattle.program_check.proofs.given.marked.Given as goal

abbrev pub invariant-loop-left : goal.invariant-loop-left
invariant-loop-left l = MarkedSoFar l.count l.places l.left l.marks.items

abbrev pub decreases-loop-left : goal.decreases-loop-left
decreases-loop-left l = l.left
