use Rattle.std.proofs.Common.{map, sym, ap, ◌∙◌}
use Rattle.widget_model.specs.declared.widgets.Widget.{Widget}
use Rattle.widget_model.specs.PlainLaws.{list_of-widgets_of}
use Rattle.widget_model.specs.View.{shared}
use Rattle.build_owner.specs.Given.{given_to}
use Rattle.build_owner.proofs.giving.given_to.Goals as goal

pub returns-in-Own : goal.returns-in-Own
returns-in-Own c =
    c.get.ensures.widgets ∙ ap (λ (w : Widget). w.children) c.deref.ensures ∙ sym (list_of-widgets_of c.args.widget.now.value.children)
    ∙ sym (ap (given_to (shared c.args.widget.now)) c.in-Own.is)

pub returns-in-One : goal.returns-in-One
returns-in-One c = ap (map shared) c.from_ref.ensures.value ∙ sym (ap (given_to (shared c.args.widget.now)) c.in-One.is)

pub returns-in-Others : goal.returns-in-Others
returns-in-Others c = ap (map shared) c.as_slice.ensures.value ∙ sym (ap (given_to (shared c.args.widget.now)) c.in-Others.is)
