use Rattle.program_check.proofs.PlaceLemmas.{left_to_find}
use Rattle.program_check.proofs.places.component_index.Given as goal

abbrev pub invariant-loop-i : goal.invariant-loop-i
invariant-loop-i l = left_to_find (λ c. c.name) l.components l.name l.i
