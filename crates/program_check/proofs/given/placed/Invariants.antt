use Rattle.std.proofs.Common.{length}
use Rattle.program_check.proofs.GivenLemmas.{PlacedSoFar}
use Rattle.program_check.proofs.given.placed.Given as goal

abbrev pub invariant-loop-place : goal.invariant-loop-place
invariant-loop-place g l = PlacedSoFar l.count l.fn.given.items l.given.items l.table.items

abbrev pub decreases-loop-place : goal.decreases-loop-place
decreases-loop-place g l = length l.given.items
