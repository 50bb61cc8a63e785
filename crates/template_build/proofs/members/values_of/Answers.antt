use Rattle.fx_expr.specs.Scope.{types_in}
use Rattle.fx_expr.specs.ScopeView.{env_of}
use Rattle.template_build.proofs.Bodies.{expr_has_type}
use Rattle.template_build.proofs.members.values_of.Goals as goal

pub eval-requires : goal.eval-requires
eval-requires c =
    expr_has_type (types_in (env_of c.args.scope.now)) c.args.exprs.now c.loop-e.e-index c.e-item.result c.requires c.loop-e-test.true c.e-item.is
