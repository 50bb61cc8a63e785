-- The places so far are those of the matches so far.
use Rattle.std.proofs.Common.{◌≡◌, Some, map, take}
use Rattle.renewed_builds.proofs.gathering.found.Given as goal

abbrev pub invariant-loop-place : goal.invariant-loop-place
invariant-loop-place l = map (λ j. Some j) l.places.items ≡ take l.place-index l.matches
