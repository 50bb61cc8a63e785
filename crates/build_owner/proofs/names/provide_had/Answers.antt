use Rattle.std.proofs.Common.{map, sym, ap, ◌∙◌, subst}
use Rattle.fx_expr.specs.Value.{type_of}
use Rattle.element_tree.specs.Element.{element_at}
use Rattle.widget_model.specs.declared.widgets.Widget.{Widget}
use Rattle.widget_model.specs.Look.{Look}
use Rattle.widget_model.specs.Plain.{look_of}
use Rattle.widget_model.specs.View.{shared, look_in}
use Rattle.build_form.specs.BuildRole.{build_role_of}
use Rattle.build_form.specs.Filling.{FitsNames}
use Rattle.build_owner.proofs.Children.{stored_widget}
use Rattle.build_owner.proofs.names.provide_had.Goals as goal

pub provide_below-requires : goal.provide_below-requires
provide_below-requires c =
    let w = c.in-Some-widget.widget.now in
    let stored = stored_widget (element_at c.args.t.now.tree c.in-Some.h) (shared w) c.in-Some-widget.ensures in
    subst (λ (l : Look). FitsNames (map type_of c.args.values.now) (build_role_of l)) (ap look_of stored.2 ∙ sym (ap (λ (x : Widget). look_in x.kind) c.deref.ensures)) (c.requires c.in-Some.h stored.0 stored.1)
