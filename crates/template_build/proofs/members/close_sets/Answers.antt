use Rattle.std.proofs.Common.{sym, subst}
use Rattle.fx_expr.specs.Scope.{types_in}
use Rattle.fx_expr.specs.ScopeView.{env_of}
use Rattle.expr_check.specs.Handlers.{AreTypedSets}
use Rattle.template_build.proofs.Bodies.{set_has_type}
use Rattle.template_build.proofs.members.close_sets.Goals as goal

pub close-requires : goal.close-requires
close-requires c =
    let T = types_in (env_of c.args.scope.now) in
    set_has_type T c.get-list.result.now c.loop-set.set-index c.set-item.result
    (subst (AreTypedSets T) (sym c.get-list.ensures) c.requires) c.loop-set-test.true c.set-item.is
