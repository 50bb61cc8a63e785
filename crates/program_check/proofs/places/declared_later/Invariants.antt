use Rattle.program_check.proofs.PlaceLemmas.{left_to_find}
use Rattle.program_check.proofs.places.declared_later.Given as goal

abbrev pub invariant-loop-i : goal.invariant-loop-i
invariant-loop-i l = left_to_find (λ n. n) l.names l.name l.i
