-- The handles so far are those at the places so far.
use Rattle.std.proofs.Common.{◌≡◌, take}
use Rattle.renewed_builds.specs.Taking.{handles_at}
use Rattle.renewed_builds.proofs.taking.handles_at.Given as goal

abbrev pub invariant-loop-place : goal.invariant-loop-place
invariant-loop-place l = l.all.items ≡ handles_at l.handles (take l.place-index l.places)
