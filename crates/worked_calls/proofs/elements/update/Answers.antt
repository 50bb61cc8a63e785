use Rattle.std.proofs.Common.{ap, ◌∙◌}
use Rattle.widget_model.specs.View.{shared, plain_of}
use Rattle.worked_calls.proofs.Following.{follows, widget_is}
use Rattle.worked_calls.proofs.elements.update.Goals as goal

pub update-requires : goal.update-requires
update-requires c = λ e at.
    follows e.widget (shared c.in_ok-same.same)
    (ap (λ w. plain_of w) c.in_ok-same.ensures.cases ∙ widget_is c.args.tree.now.tree c.args.h (shared c.in-Some.widget.now) e c.in-Some.ensures at)
