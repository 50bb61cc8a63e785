use Rattle.std.proofs.Common.{◌≡◌, take}
use Rattle.renewed_builds.specs.Taking.{handles_at}
use Rattle.frame_owner.proofs.redrawing.at_places.Given as goal

abbrev pub invariant-loop-place : goal.invariant-loop-place
invariant-loop-place l = l.found.items ≡ handles_at l.handles (take l.place-index l.places)
