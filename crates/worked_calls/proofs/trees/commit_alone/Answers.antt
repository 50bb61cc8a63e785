use Rattle.std.proofs.Common.{◌∷◌, ◌++◌, [], ap, ◌∙◌}
use Rattle.worked_calls.proofs.Plans.{of_one}
use Rattle.worked_calls.proofs.trees.commit_alone.Goals as goal

pub commit-requires : goal.commit-requires
commit-requires g c =
    let (e, at, parent, children, items) = c.in_ok-push_top.ensures in
    of_one _ _ _ e c.args.h (c.contains.ensures.0 c.if-not-contains.false) (record { at = at; parent = parent; children = children })
    (items ∙ ap (λ xs. xs ++ e ∷ []) c.new-plan.ensures.items) c.new-waiting.ensures.items
