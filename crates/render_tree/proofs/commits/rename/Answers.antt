use Rattle.std.proofs.Common.{ap, sym, ◌∙◌}
use Rattle.widget_model.specs.declared.widgets.Widget.{Widget}
use Rattle.widget_model.specs.Plain.{look_of}
use Rattle.widget_model.specs.View.{look_in}
use Rattle.layout_form.specs.Layout.{delegate_of}
use Rattle.render_tree.specs.Object.{RenderObject, object_look}
use Rattle.render_tree.specs.Redraw.{Redraw}
use Rattle.render_tree.specs.Tree.{object_at}
use Rattle.render_tree.proofs.Planned.{renames-dead, renames-live}
use Rattle.render_tree.proofs.commits.rename.Goals as goal

pub returns-in_default : goal.returns-in_default
returns-in_default c = renames-dead c.args.tree.now c.args.entry.now c.args.users.now (ap (object_at c.args.tree.now) (sym c.at-at.ensures) ∙ sym c.in_default.ensures)

pub returns : goal.returns
returns c =
    renames-live c.args.tree.now c.args.entry.now c.args.users.now c.drop_user.new.users c.reserve_user.new.users c.put_user.new.users c.in-Some.object.now c.at-at.result
    (delegate_of (look_in c.deref.result.now.kind)) (delegate_of (look_in c.deref-3.result.now.kind)) c.at-at.ensures (sym c.in-Some.ensures)
    (ap (λ (x : RenderObject). delegate_of (object_look x)) (sym c.object.view_is) ∙ ap (λ (x : Widget). delegate_of (look_in x.kind)) (sym c.deref.ensures))
    (ap (λ (u : Redraw). delegate_of (look_of u.widget)) (sym c.update-update.ensures ∙ sym c.update.view_is) ∙ ap (λ (x : Widget). delegate_of (look_in x.kind)) (sym c.deref-3.ensures))
    c.drop_user.ensures.standing c.in_ok-reserve_user.ensures.same c.put_user.ensures
