use Rattle.std.proofs.Common.{◌∷◌, ◌++◌, [], ap, ◌∙◌}
use Rattle.worked_calls.proofs.Plans.{part_of_one}
use Rattle.worked_calls.proofs.render_steps.commit_part_alone.Goals as goal

pub commit_part-requires : goal.commit_part-requires
commit_part-requires c =
    let (e, at, parent, children, items) = c.in_ok-push_alone.ensures in
    let is = items ∙ ap (λ xs. xs ++ e ∷ []) c.new-plan.ensures.items in
    part_of_one _ c.args.tree.now.tree _ _ e c.args.h (rw c.tree.ensures at (c.contains.ensures.0 c.if-not-contains.false)) (record { at = at; parent = parent; children = children }) is c.new-waiting.ensures.items
