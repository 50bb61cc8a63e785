-- The map has a place of each key so far.
use Rattle.std.proofs.Common.{map}
use Rattle.reconcile.specs.Places.{ArePlaces}
use Rattle.widget_model.specs.View.{shared}
use Rattle.reconcile.proofs.places.places_by_key.Given as goal

abbrev pub invariant-loop-place : goal.invariant-loop-place
invariant-loop-place l = ArePlaces (map shared l.old) l.from l.place l.places
