use Rattle.std.proofs.Common.{ap, sym, ◌∙◌, ℕ, cond, Option, is_some, []}
use Rattle.layout_rules.specs.Heard.{told_below}
use Rattle.layout_rules.proofs.Filling.{if_ok}
use Rattle.layout_rules.proofs.fixed.heard_at.Goals as goal

pub returns-in-None : goal.returns-in-None
returns-in-None c =
    let whole = told_below c.args.r.now.tree c.args.h in
    if_ok c.told_to.result _ _ (λ told is. is ∙ sym (ap (λ (o : Option ℕ). cond (is_some o) [] whole) (sym c.list_at.ensures.stored ∙ c.in-None.is))) c.told_to.ensures

pub returns-in-Some : goal.returns-in-Some
returns-in-Some c =
    let whole = told_below c.args.r.now.tree c.args.h in
    sym (ap (λ (o : Option ℕ). cond (is_some o) [] whole) (sym c.list_at.ensures.stored ∙ c.in-Some.is))
