use Rattle.fx_expr.specs.ValueLaws.{order-ties}
use Rattle.fx_expr.proofs.laws.order_ties_equals.Goals as goal

pub returns : goal.returns
returns c = order-ties
