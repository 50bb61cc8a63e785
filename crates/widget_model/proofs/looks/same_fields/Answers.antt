use Rattle.std.proofs.Common.{◌≡◌, ◌∙◌, rules, sym}
use Rattle.std.specs.Cmp.Lexicographic.{pointwise}
use Rattle.widget_model.proofs.Fields.{field_eq, fields_decide}
use Rattle.widget_model.proofs.looks.same_fields.Goals as goal

pub returns : goal.returns
returns c =
    let d = fields_decide c.args.a.now c.args.b.now in
    let e : c.eq.result ≡ pointwise field_eq c.args.a.now c.args.b.now = search rules in
    (λ t. d.0 (sym e ∙ t), λ same. e ∙ d.1 same)
