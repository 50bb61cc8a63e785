use Rattle.std.proofs.Common.{◌≡◌, ◌∙◌, rules, sym}
use Rattle.widget_model.specs.Update.{key_eq}
use Rattle.widget_model.specs.UpdateLaws.{key_eq-Decides}
use Rattle.widget_model.proofs.types.same_key.Goals as goal

pub returns-in-Local-Local-clause-meaning : goal.returns-in-Local-Local-clause-meaning
returns-in-Local-Local-clause-meaning c =
    let d = key_eq-Decides c.args.a.now c.args.b.now in
    let e : c.eq.result ≡ key_eq c.args.a.now c.args.b.now = search rules in
    (λ t. d.0 (sym e ∙ t), λ same. e ∙ d.1 same)

pub returns-in-Global-Global-clause-meaning : goal.returns-in-Global-Global-clause-meaning
returns-in-Global-Global-clause-meaning c =
    let d = key_eq-Decides c.args.a.now c.args.b.now in
    let e : c.eq-in-Global-Global.result ≡ key_eq c.args.a.now c.args.b.now = search rules in
    (λ t. d.0 (sym e ∙ t), λ same. e ∙ d.1 same)
