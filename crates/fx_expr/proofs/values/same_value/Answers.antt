use Rattle.std.proofs.Common.{◌≡◌, rules, sym, ◌∙◌}
use Rattle.fx_expr.specs.Value.{value_eq}
use Rattle.fx_expr.specs.ValueLaws.{value_eq-Decides}
use Rattle.fx_expr.proofs.values.same_value.Goals as goal

pub returns-clause-meaning : goal.returns-clause-meaning
returns-clause-meaning c =
    let d = value_eq-Decides c.args.a.now c.args.b.now in
    let e : c.eq.result ≡ value_eq c.args.a.now c.args.b.now = search rules in
    (λ t. d.0 (sym e ∙ t), λ same. e ∙ d.1 same)
