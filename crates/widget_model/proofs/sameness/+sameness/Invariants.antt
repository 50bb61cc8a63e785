-- How many widgets a call is given, what the two at hand say of the two that were given, and which parts agree.
use Rattle.std.proofs.Common.{◌≡◌, ◌≢◌, ◌↔◌, ℕ, ◌+◌, ◌*◌, ◌<◌, ◌≤◌, get_or}
use Rattle.widget_model.specs.Plain.{PlainWidget}
use Rattle.widget_model.specs.Size.{count_of}
use Rattle.widget_model.specs.Parts.{parts_in}
use Rattle.widget_model.specs.View.{plain_of}
use Rattle.widget_model.proofs.sameness.+sameness.Given as goal

abbrev pub decreases-same : goal.decreases-same
decreases-same l = 2 * count_of (plain_of l.a.now) + 1

abbrev pub decreases-same_but : goal.decreases-same_but
decreases-same_but l = 2 * count_of (plain_of l.a.now)

abbrev pub invariant-same-loop-left : goal.invariant-same-loop-left
invariant-same-loop-left l =
    ((plain_of l.left ≡ plain_of l.right) ↔ (plain_of l.a ≡ plain_of l.b)) × (count_of (plain_of l.left) ≤ count_of (plain_of l.a))

abbrev pub decreases-same-loop-left : goal.decreases-same-loop-left
decreases-same-loop-left l = count_of (plain_of l.left)

abbrev pub invariant-same_but-loop-i : goal.invariant-same_but-loop-i
invariant-same_but-loop-i l = (k : ℕ) (d : PlainWidget) → k < l.i → k ≢ l.place → get_or (parts_in l.a) k d ≡ get_or (parts_in l.b) k d
