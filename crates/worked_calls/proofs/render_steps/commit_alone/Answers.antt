use Rattle.std.proofs.Common.{◌∷◌, ◌++◌, [], refl, ap, ◌∙◌}
use Rattle.worked_calls.proofs.Plans.{of_one}
use Rattle.worked_calls.proofs.render_steps.commit_alone.Goals as goal

pub commit-requires : goal.commit-requires
commit-requires g c =
    let (e, at, parent, children, items) = c.in_ok-push_alone.ensures in
    let is = items ∙ ap (λ xs. xs ++ e ∷ []) c.new-plan.ensures.items in
    of_one c.args.tree.now.tree _ [] e c.args.h (rw c.tree.ensures at (c.contains.ensures.0 c.if-not-contains.false)) (record { at = at; parent = parent; children = children }) is refl
