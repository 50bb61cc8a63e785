-- The number is left to look for.
use Rattle.std.proofs.Common.{◌≡◌, drop, None}
use Rattle.screen_form.specs.FocusSteps.{before}
use Rattle.focus_order.proofs.stepping.before.Given as goal

abbrev pub invariant-loop-number : goal.invariant-loop-number
invariant-loop-number l = before l.earlier (drop l.number-index l.order) l.wanted ≡ before None l.order l.wanted
