-- The widgets so far go on from those at the places so far, each from another.
use Rattle.std.proofs.Common.{◌≡◌, length, map}
use Rattle.widget_model.specs.View.{shared}
use Rattle.renewed_builds.proofs.GoingOn.{AreMet}
use Rattle.renewed_builds.proofs.following.places_by_number.Given as goal

abbrev pub invariant-loop-i : goal.invariant-loop-i
invariant-loop-i l =
    (length l.places.items ≡ l.i) × (length l.taken.items ≡ length l.was) × AreMet (map shared l.was) (map shared l.now) l.places.items l.taken.items
