-- Where the number was met, what is left begins with the one after it; else it is left to look for.
use Rattle.std.proofs.Common.{◌≡◌, drop, if◌then◌else◌}
use Rattle.screen_form.specs.FocusSteps.{after, first_of}
use Rattle.focus_order.proofs.stepping.after.Given as goal

abbrev pub invariant-loop-number : goal.invariant-loop-number
invariant-loop-number l =
    (if l.found then first_of (drop l.number-index l.order) else after (drop l.number-index l.order) l.wanted) ≡ after l.order l.wanted
