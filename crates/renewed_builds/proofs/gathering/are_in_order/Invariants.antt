-- Whether all are in order is left to the others.
use Rattle.std.proofs.Common.{◌≡◌, drop}
use Rattle.renewed_builds.specs.Renewing.{are_in_order}
use Rattle.renewed_builds.proofs.gathering.are_in_order.Given as goal

abbrev pub invariant-loop-i : goal.invariant-loop-i
invariant-loop-i l = are_in_order l.i (drop l.i l.places) ≡ are_in_order 0 l.places
