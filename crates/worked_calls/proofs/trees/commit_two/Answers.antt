use Rattle.std.proofs.Common.{◌∷◌, ◌++◌, [], sym, ap, ◌∙◌}
use Rattle.std.proofs.lemmas.Bool.{false≢true}
use Rattle.worked_calls.proofs.Plans.{of_two}
use Rattle.worked_calls.proofs.trees.commit_two.Goals as goal

pub commit-requires : goal.commit-requires
commit-requires g c =
    let (e, at, parent, children, items) = c.in_ok-push_top.ensures in
    let (f, at_2, parent_2, children_2, items_2) = c.in_ok-push_top-2.ensures in
    of_two _ _ _ e f c.args.root c.args.waits (c.contains.ensures.0 c.if-not-contains.false) (c.contains-2.ensures.0 c.if-not-contains-2.false)
    (λ e. absurd (false≢true (sym c.if-is_same.false ∙ c.is_same.ensures.1 e)))
    (record { at = at; parent = parent; children = children })
    (record { at = at_2; parent = parent_2; children = children_2 })
    (items_2 ∙ ap (λ xs. xs ++ f ∷ []) (items ∙ ap (λ xs. xs ++ e ∷ []) c.new-plan.ensures.items))
    c.in_ok-waiting.ensures
