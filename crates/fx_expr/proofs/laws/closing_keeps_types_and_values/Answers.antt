use Rattle.fx_expr.specs.ClosingLaws.{value_of-closed, closed-IsClosed, closed-typed}
use Rattle.fx_expr.proofs.laws.closing_keeps_types_and_values.Goals as goal

pub returns-clause-names : goal.returns-clause-names
returns-clause-names c = closed-IsClosed

pub returns-clause-types : goal.returns-clause-types
returns-clause-types c = closed-typed

pub returns-clause-values : goal.returns-clause-values
returns-clause-values c = value_of-closed
