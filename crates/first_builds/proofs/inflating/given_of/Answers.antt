use Rattle.std.proofs.Common.{map, option_map, sym, ap, ◌∙◌}
use Rattle.widget_model.specs.declared.widgets.Widget.{Widget}
use Rattle.widget_model.specs.PlainLaws.{list_of-widgets_of}
use Rattle.widget_model.specs.View.{shared}
use Rattle.first_builds.specs.Inflated.{given_of}
use Rattle.first_builds.proofs.inflating.given_of.Goals as goal

pub returns-in-None : goal.returns-in-None
returns-in-None c =
    c.get.ensures.widgets ∙ ap (λ (w : Widget). w.children) c.deref.ensures ∙ sym (list_of-widgets_of c.args.widget.now.value.children)
    ∙ sym (ap (λ o. given_of (shared c.args.widget.now) (option_map shared o)) c.in-None.is)

pub returns-in-Some : goal.returns-in-Some
returns-in-Some c = ap (map shared) c.from_ref.ensures.value ∙ sym (ap (λ o. given_of (shared c.args.widget.now) (option_map shared o)) c.in-Some.is)
