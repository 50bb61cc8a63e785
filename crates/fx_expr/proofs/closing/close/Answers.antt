use Rattle.fx_expr.specs.View.{exp_of}
use Rattle.fx_expr.specs.ScopeView.{env_of}
use Rattle.fx_expr.proofs.ClosedLaws.{result_names, result_value, result_typed}
use Rattle.fx_expr.proofs.closing.close.Goals as goal

pub returns-clause-names : goal.returns-clause-names
returns-clause-names c = result_names c.substituted.result (exp_of c.args.e.now) (env_of c.args.s.now) c.substituted.ensures

pub returns-clause-value : goal.returns-clause-value
returns-clause-value c = result_value c.substituted.result (exp_of c.args.e.now) (env_of c.args.s.now) c.substituted.ensures

pub returns-clause-typed : goal.returns-clause-typed
returns-clause-typed c = result_typed c.substituted.result (exp_of c.args.e.now) (env_of c.args.s.now) c.substituted.ensures
