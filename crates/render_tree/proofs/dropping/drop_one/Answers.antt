use Rattle.std.proofs.Common.{ap, sym, ◌∙◌, option_and_then}
use Rattle.widget_model.specs.declared.widgets.Widget.{Widget}
use Rattle.widget_model.specs.View.{look_in}
use Rattle.layout_form.specs.Layout.{delegate_of}
use Rattle.render_tree.specs.Object.{RenderObject, object_look}
use Rattle.render_tree.proofs.Dropped.{drops-one}
use Rattle.render_tree.proofs.dropping.drop_one.Goals as goal

pub returns : goal.returns
returns c =
    drops-one c.args.tree.now c.args.h (delegate_of (look_in c.deref.result.now.kind)) c.args.users.now c.drop_user.new.users
    (ap (option_and_then (λ (o : RenderObject). delegate_of (object_look o))) (sym c.in-Some.ensures) ∙ ap (λ (x : RenderObject). delegate_of (object_look x)) (sym c.object.view_is) ∙ ap (λ (x : Widget). delegate_of (look_in x.kind)) (sym c.deref.ensures))
    c.drop_user.ensures.standing
