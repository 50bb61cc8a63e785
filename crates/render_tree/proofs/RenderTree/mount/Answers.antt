use Rattle.std.proofs.Common.{length, ap, sym, ◌∙◌}
use Rattle.widget_model.specs.declared.widgets.Widget.{Widget}
use Rattle.widget_model.specs.View.{look_in}
use Rattle.layout_form.specs.Layout.{delegate_of}
use Rattle.node_tree.specs.Mounting.{children_below}
use Rattle.render_tree.specs.Object.{RenderObject, object_look}
use Rattle.render_tree.proofs.Quiet.{noteless_added}
use Rattle.render_tree.proofs.Used.{used_inserted}
use Rattle.render_tree.proofs.RenderTree.mount.Goals as goal

pub invariant_of-self-2 : goal.invariant_of-self-2
invariant_of-self-2 c =
    let o = c.in_ok-object.object in
    let h = c.in_ok-h.h in
    let at = length (children_below c.self.inside.tree c.args.parent) in
    let is = ap (λ (x : RenderObject). delegate_of (object_look x)) c.in_ok-object.ensures.object in
    let others = c.edit_laws.ensures.adds c.self.inside.tree c.mount.new.self c.args.parent at h o c.in_ok-h.ensures.adds in (
      used_inserted c.self.inside.users c.prepare_mounted.new.users c.put_user.new.users c.self.inside.tree c.mount.new.self c.args.parent at h o (delegate_of (look_in c.deref.result.now.kind))
          c.self.invariant.0 c.in_ok-object.ensures.same c.put_user.ensures c.in_ok-h.ensures.adds
          (is ∙ sym (ap (λ (x : Widget). delegate_of (look_in x.kind)) c.deref.ensures)) others,
      λ e. noteless_added c.self.inside.tree c.mount.new.self c.args.parent at h o (c.self.invariant.1 e) c.in_ok-h.ensures.adds (ap (λ (x : RenderObject). x.notes) c.in_ok-object.ensures.object) others,
    )
