use Rattle.expr_check.proofs.HandlerLemmas.{checked_handler-typed}
use Rattle.expr_check.proofs.laws.checked_handlers_are_typed.Goals as goal

pub returns : goal.returns
returns c = checked_handler-typed
