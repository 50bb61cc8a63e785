use Rattle.std.proofs.Common.{◌∷◌, ◌++◌, [], sym, ap, ◌∙◌}
use Rattle.std.proofs.lemmas.List.{append-nil}
use Rattle.build_walk.specs.Merging.{lists_redraw}
use Rattle.build_owner.proofs.Ranged.{listed_one, listed_none}
use Rattle.build_owner.proofs.ranging.add_list.Goals as goal

pub returns-then-not-lists : goal.returns-then-not-lists
returns-then-not-lists c =
    sym (append-nil c.args.lists.now.items) ∙ ap (λ l. c.args.lists.now.items ++ l) (sym (listed_none lists_redraw c.args.entry.now (ap lists_redraw (sym c.update.ensures) ∙ sym c.lists.ensures ∙ c.if-not-lists.true)))

pub returns : goal.returns
returns c =
    c.in_ok-push.ensures.items
    ∙ ap (λ h. c.args.lists.now.items ++ h ∷ []) c.at.ensures
    ∙ ap (λ l. c.args.lists.now.items ++ l) (sym (listed_one lists_redraw c.args.entry.now (ap lists_redraw (sym c.update.ensures) ∙ sym c.lists.ensures ∙ c.if-not-lists.false)))
