-- No child of the middle so far can update to the new one.
use Rattle.std.proofs.Common.{◌≡◌, ℕ, ◌≤◌, ◌<◌, false, get_or, map}
use Rattle.widget_model.specs.Update.{updates}
use Rattle.widget_model.specs.View.{plain_of, shared}
use Rattle.reconcile.proofs.scan.first_place.Given as goal

abbrev pub invariant-loop-place : goal.invariant-loop-place
invariant-loop-place l =
    (k : ℕ) → l.middle.start ≤ k → k < l.place → updates (get_or (map shared l.old) k (plain_of l.widget)) (plain_of l.widget) ≡ false
