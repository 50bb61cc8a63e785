use Rattle.std.proofs.Common.{◌∷◌, ◌++◌, [], refl, ap, ◌∙◌}
use Rattle.widget_model.specs.View.{shared, plain_of}
use Rattle.worked_calls.proofs.Plans.{of_one}
use Rattle.worked_calls.proofs.Following.{follows_alone}
use Rattle.worked_calls.proofs.elements.commit_alone.Goals as goal

pub commit-requires : goal.commit-requires
commit-requires c =
    let (e, at, parent, children, update, items) = c.in_ok-push_alone.ensures in
    let is = items ∙ ap (λ xs. xs ++ e ∷ []) c.new-plan.ensures.items in
    record {
      plan = of_one c.args.tree.now.tree _ [] e c.args.h (rw c.tree.ensures at (c.contains.ensures.0 c.if-not-contains.false)) (record { at = at; parent = parent; children = children }) is refl;
      follows = follows_alone c.args.tree.now.tree _ e c.args.h (shared c.in-Some.widget.now) is at (ap (λ u. u.widget) update ∙ ap (λ w. plain_of w) c.in_ok-clone.ensures.cases) c.in-Some.ensures;
    }
