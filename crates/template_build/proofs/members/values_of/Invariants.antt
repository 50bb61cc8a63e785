use Rattle.std.proofs.Common.{◌≡◌, map, take}
use Rattle.fx_expr.specs.ScopeView.{env_of}
use Rattle.fx_expr.specs.ValueOf.{value_of}
use Rattle.fx_expr.specs.View.{exp_of}
use Rattle.template_build.proofs.members.values_of.Given as goal

abbrev pub invariant-loop-e : goal.invariant-loop-e
invariant-loop-e l = l.values.items ≡ map (λ e. value_of e (env_of l.scope)) (map exp_of (take l.e-index l.exprs))
