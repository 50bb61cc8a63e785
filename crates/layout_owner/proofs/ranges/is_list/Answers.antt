use Rattle.std.specs.Prelude.{is_some}
use Rattle.std.proofs.Common.{ap, ◌∙◌, option_copied, option_map}
use Rattle.widget_model.specs.declared.widgets.Widget.{Widget}
use Rattle.widget_model.specs.Plain.{PlainWidget, look_of}
use Rattle.widget_model.specs.View.{plain_of, shared}
use Rattle.render_tree.specs.Tree.{object_at}
use Rattle.layout_walk.specs.Rules.{lazy_extent}
use Rattle.layout_owner.proofs.Listing.{widget_is, no_widget}
use Rattle.layout_owner.proofs.ranges.is_list.Goals as goal

pub returns-in-None : goal.returns-in-None
returns-in-None c = λ o is.
    absurd (no_widget (option_map shared (option_copied c.widget.result)) (object_at c.args.r.now.tree c.args.h) o c.widget.ensures (ap (λ x. option_map shared (option_copied x)) c.in-None.is) is)

pub returns-in-Some : goal.returns-in-Some
returns-in-Some c = λ o is.
    c.is_some.ensures
    ∙ ap (λ x. is_some x) c.list_extent.ensures
    ∙ ap (λ (v : Widget). is_some (lazy_extent (look_of (plain_of v)))) c.deref.ensures
    ∙ ap (λ (w : PlainWidget). is_some (lazy_extent (look_of w)))
    (widget_is (option_map shared (option_copied c.widget.result)) (object_at c.args.r.now.tree c.args.h) (shared c.in-Some.widget.now) o c.widget.ensures
    (ap (λ x. option_map shared (option_copied x)) c.in-Some.is) is)
