use Rattle.fx_expr.specs.TypeLaws.{value_of-typed}
use Rattle.fx_expr.proofs.laws.values_have_their_types.Goals as goal

pub returns : goal.returns
returns c = value_of-typed
