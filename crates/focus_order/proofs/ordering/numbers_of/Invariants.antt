-- The numbers so far are those of the spots so far.
use Rattle.std.proofs.Common.{◌≡◌, map}
use Rattle.screen_form.specs.FocusOrder.{number_of}
use Rattle.focus_order.proofs.ordering.numbers_of.Given as goal

abbrev pub invariant-loop-spot : goal.invariant-loop-spot
invariant-loop-spot l = l.numbers.items ≡ map (λ s. number_of s.now) l.yielded
