use Rattle.std.proofs.Common.{◌∷◌, ◌++◌, [], ap, ◌∙◌}
use Rattle.worked_calls.proofs.Plans.{part_of_one}
use Rattle.worked_calls.proofs.trees.commit_part_alone.Goals as goal

pub commit_part-requires : goal.commit_part-requires
commit_part-requires g c =
    let (e, at, parent, children, items) = c.in_ok-push_top.ensures in
    part_of_one _ _ _ _ e c.args.h (c.contains.ensures.0 c.if-not-contains.false) (record { at = at; parent = parent; children = children })
    (items ∙ ap (λ xs. xs ++ e ∷ []) c.new-plan.ensures.items) c.new-waiting.ensures.items
