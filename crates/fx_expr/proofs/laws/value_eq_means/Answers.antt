use Rattle.fx_expr.specs.ValueLaws.{value_eq-Decides}
use Rattle.fx_expr.proofs.laws.value_eq_means.Goals as goal

pub returns : goal.returns
returns c = value_eq-Decides
