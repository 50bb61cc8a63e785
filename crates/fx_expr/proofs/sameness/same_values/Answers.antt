use Rattle.std.proofs.Common.{◌≡◌, ◌∙◌, rules, sym}
use Rattle.std.specs.Cmp.Lexicographic.{pointwise}
use Rattle.fx_expr.specs.contracts.values.ValuePartialEq.TheImpl.{ghosts}
use Rattle.fx_expr.proofs.Telling.{values_decide}
use Rattle.fx_expr.proofs.sameness.same_values.Goals as goal

pub returns : goal.returns
returns c =
    let d = values_decide c.args.a.now c.args.b.now in
    let e : c.eq.result ≡ pointwise (ghosts).eq c.args.a.now c.args.b.now = search rules in
    (λ t. d.0 (sym e ∙ t), λ same. e ∙ d.1 same)
