-- Each widget so far has its true size.
use Rattle.widget_model.specs.Sized.{AreSized}
use Rattle.worked_calls.proofs.widgets.clip.Given as goal

abbrev pub invariant-loop : goal.invariant-loop
invariant-loop l = AreSized l.items.items
