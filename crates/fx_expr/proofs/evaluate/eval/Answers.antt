use Rattle.fx_expr.specs.View.{exp_of}
use Rattle.fx_expr.specs.ScopeView.{env_of}
use Rattle.fx_expr.proofs.ListItems.{result_typed}
use Rattle.fx_expr.proofs.evaluate.eval.Goals as goal

pub returns-clause-typed : goal.returns-clause-typed
returns-clause-typed c = result_typed (exp_of c.args.e.now) (env_of c.args.s.now) c.evaluated.result c.evaluated.ensures
