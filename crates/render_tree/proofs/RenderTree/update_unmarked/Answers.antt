use Rattle.std.proofs.Common.{ap, sym, ◌∙◌, subst}
use Rattle.widget_model.specs.declared.widgets.Widget.{Widget}
use Rattle.widget_model.specs.View.{look_in, shared, plain_of}
use Rattle.layout_form.specs.Layout.{delegate_of}
use Rattle.render_tree.specs.Object.{RenderObject, object_look}
use Rattle.render_tree.specs.Edits.{Changes, with_widget}
use Rattle.render_tree.proofs.Quiet.{noteless_set}
use Rattle.render_tree.proofs.Used.{used_updated}
use Rattle.render_tree.proofs.RenderTree.update_unmarked.Goals as goal

pub invariant_of-self-2 : goal.invariant_of-self-2
invariant_of-self-2 c =
    let changes : Changes c.self.inside.tree c.write_widget.new.tree c.args.h (with_widget (shared c.args.w.now)) =
    subst (λ (x : Widget). Changes c.self.inside.tree c.write_widget.new.tree c.args.h (with_widget (plain_of x))) c.in_ok-widget.ensures.cases c.write_widget.ensures in (
      used_updated c.self.inside.users c.reserve_user.new.users c.drop_user.new.users c.put_user.new.users c.self.inside.tree c.write_widget.new.tree c.args.h c.in-Some.object.now (shared c.args.w.now)
          (delegate_of (look_in c.deref-2.result.now.kind)) (delegate_of (look_in c.deref-3.result.now.kind))
          c.self.invariant.0 c.in_ok-reserve_user.ensures.same c.drop_user.ensures.standing c.put_user.ensures (sym c.in-Some.ensures)
          (ap (λ (x : RenderObject). delegate_of (object_look x)) (sym c.object.view_is) ∙ ap (λ (x : Widget). delegate_of (look_in x.kind)) (sym c.in_ok-was.ensures.cases ∙ sym c.deref-2.ensures))
          (sym (ap (λ (x : Widget). delegate_of (look_in x.kind)) c.deref-3.ensures))
          changes,
      λ e. noteless_set c.self.inside.tree c.write_widget.new.tree c.args.h (with_widget (shared c.args.w.now)) (c.self.invariant.1 e) changes (λ o quiet. quiet),
    )
