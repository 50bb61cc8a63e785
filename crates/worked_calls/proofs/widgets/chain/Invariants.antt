-- The chain so far has its true size.
use Rattle.widget_model.specs.Sized.{IsSized}
use Rattle.worked_calls.proofs.widgets.chain.Given as goal

abbrev pub invariant-loop : goal.invariant-loop
invariant-loop l = IsSized l.link.value
