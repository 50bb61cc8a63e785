use Rattle.std.proofs.Common.{◌≡◌, ◌∙◌, rules, sym}
use Rattle.std.specs.Cmp.{signed_Decides}
use Rattle.std.specs.Cmp.Lexicographic.{pointwise, pointwise_decides}
use Rattle.std.specs.Ordering.{int_eq}
use Rattle.widget_model.proofs.looks.same_widths.Goals as goal

pub returns : goal.returns
returns c =
    let d = pointwise_decides signed_Decides c.args.a.now c.args.b.now in
    let e : c.eq.result ≡ pointwise int_eq c.args.a.now c.args.b.now = search rules in
    (λ t. d.0 (sym e ∙ t), λ same. e ∙ d.1 same)
