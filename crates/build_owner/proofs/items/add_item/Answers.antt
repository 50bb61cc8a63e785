use Rattle.std.proofs.Common.{◌≡◌, ◌∷◌, ◌++◌, [], map, sym, ap, ◌∙◌}
use Rattle.std.proofs.lemmas.List.{map-append, append-nil}
use Rattle.build_owner.specs.ArrivalView.{coming}
use Rattle.build_owner.proofs.Itemized.{one_there, none_there}
use Rattle.build_owner.proofs.items.add_item.Goals as goal

pub returns-then-not-is_item : goal.returns-then-not-is_item
returns-then-not-is_item c =
    sym (append-nil (map coming c.args.items.now.items)) ∙ ap (λ l. map coming c.args.items.now.items ++ l) (none_there c.args.range (coming c.args.arrival.now) (sym c.is_item.ensures ∙ c.if-not-is_item.true))

pub returns : goal.returns
returns c =
    let same : coming c.in_ok-item.item ≡ coming c.args.arrival.now = λ i. record { widget = c.in_ok-item.ensures.widget i; place = c.in_ok-item.ensures.place i; beside = c.in_ok-item.ensures.beside i } in
    ap (map coming) c.in_ok-push.ensures.items
    ∙ map-append coming c.args.items.now.items (c.in_ok-item.item ∷ [])
    ∙ ap (λ x. map coming c.args.items.now.items ++ x ∷ []) same
    ∙ ap (λ l. map coming c.args.items.now.items ++ l) (one_there c.args.range (coming c.args.arrival.now) (sym c.is_item.ensures ∙ c.if-not-is_item.false))
