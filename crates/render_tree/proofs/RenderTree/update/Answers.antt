use Rattle.std.proofs.Common.{◌≡◌, ap, sym, ◌∙◌}
use Rattle.node_tree.specs.Tree.{parent_at}
use Rattle.widget_model.specs.Plain.{look_of}
use Rattle.widget_model.specs.View.{plain_of, shared}
use Rattle.render_tree.specs.Object.{RenderObject}
use Rattle.render_tree.specs.Tree.{RenderTree, object_at}
use Rattle.render_tree.specs.Updates.{EndsSame}
use Rattle.render_tree.proofs.Updating.{told_of, updated}
use Rattle.render_tree.proofs.RenderTree.update.Goals as goal

pub returns-clause-updated : goal.returns-clause-updated
returns-clause-updated c =
    let d = c.deref.result.now in
    let e = c.deref-2.result.now in
    updated c.args.self.now.tree c.update_unmarked.new.self.tree c.mark_layout_unless.new.self.tree c.mark_layout_unless-2.new.self.tree c.mark_paint_unless.new.self.tree c.args.h c.in-Some.object.now
    (plain_of d) (plain_of e) (shared c.args.w.now) c.is_read_same-read.result c.ends_same-ends.result c.same_look-look.result c.parent-parent.result
    (ap (λ (s : RenderTree). object_at s.tree c.args.h) (sym c.self.view_is) ∙ sym c.in-Some.ensures)
    (ap plain_of c.deref.ensures ∙ ap (λ (o : RenderObject). o.widget) c.object.view_is)
    (ap plain_of c.deref-2.ensures)
    (c.parent-parent.ensures.value ∙ ap (λ (s : RenderTree). parent_at s.tree c.args.h) c.self.view_is)
    c.is_read_same-read.ensures
    (told_of EndsSame c.ends_same-ends.result (plain_of c.deref-3.result.now) (plain_of c.deref-4.result.now) (plain_of d) (plain_of e) (ap plain_of (c.deref-3.ensures ∙ sym c.deref.ensures))
    (ap plain_of (c.deref-4.ensures ∙ sym c.deref-2.ensures)) c.ends_same-ends.ensures)
    (told_of (λ x y. look_of x ≡ look_of y) c.same_look-look.result (plain_of c.deref-5.result.now) (plain_of c.deref-6.result.now) (plain_of d) (plain_of e) (ap plain_of (c.deref-5.ensures ∙ sym c.deref.ensures))
    (ap plain_of (c.deref-6.ensures ∙ sym c.deref-2.ensures)) c.same_look-look.ensures)
    c.in_ok-update_unmarked.ensures.changes c.mark_layout_unless.ensures.same c.mark_layout_unless.ensures.other c.mark_layout_unless-2.ensures.same c.mark_layout_unless-2.ensures.other
    c.mark_paint_unless.ensures.same c.mark_paint_unless.ensures.other
