use Rattle.expr_check.proofs.Seeing.{typed_form-typed}
use Rattle.expr_check.proofs.laws.checked_expressions_are_typed.Goals as goal

pub returns : goal.returns
returns c = typed_form-typed
