use Rattle.std.proofs.Common.{◌≡◌, ap, sym, ◌∙◌, Option, Some, None, get_or}
use Rattle.layout_form.specs.declared.asks.Ask.{Ask}
use Rattle.layout_form.specs.Framed.{last_ask}
use Rattle.kind_rules.specs.Few.{items_of}
use Rattle.layout_rules.proofs.Filling.{last_at}
use Rattle.layout_rules.proofs.reading.asked_at.Goals as goal

pub returns-in-None : goal.returns-in-None
returns-in-None c =
    let first = items_of c.args.first.now in
    let rest = items_of c.args.rest.now in
    let r : get_or rest c.args.i None ≡ None = sym c.at.ensures ∙ c.in-None.is in
    c.at-in-None.ensures ∙ sym (last_at first rest c.args.i ∙ ap (λ (o : Option Ask). last_ask (get_or first c.args.i None) o) r)

pub returns-in-Some : goal.returns-in-Some
returns-in-Some c =
    let first = items_of c.args.first.now in
    let rest = items_of c.args.rest.now in
    let r : get_or rest c.args.i None ≡ Some c.in-Some.ask = sym c.at.ensures ∙ c.in-Some.is in
    sym (last_at first rest c.args.i ∙ ap (λ (o : Option Ask). last_ask (get_or first c.args.i None) o) r)
