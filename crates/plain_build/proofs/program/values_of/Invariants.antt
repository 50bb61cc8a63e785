use Rattle.std.proofs.Common.{◌≡◌, [], map, take}
use Rattle.fx_expr.specs.ValueOf.{value_of}
use Rattle.fx_expr.specs.View.{exp_of}
use Rattle.template_build.specs.Program.{props_alone}
use Rattle.plain_build.proofs.program.values_of.Given as goal

abbrev pub invariant-loop-e : goal.invariant-loop-e
invariant-loop-e l = l.values.items ≡ map (λ e. value_of e (props_alone [])) (map exp_of (take l.e-index l.exprs))
