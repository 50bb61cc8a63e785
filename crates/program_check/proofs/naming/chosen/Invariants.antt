use Rattle.std.proofs.Common.{◌≡◌}
use Rattle.program_check.proofs.NamingLemmas.{chosen_below}
use Rattle.program_check.proofs.naming.chosen.Given as goal

abbrev pub invariant-loop-i : goal.invariant-loop-i
invariant-loop-i l = l.places.items ≡ chosen_below l.marks l.i
