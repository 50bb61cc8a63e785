use Rattle.std.proofs.Common.{sym, ap, ◌∙◌}
use Rattle.node_tree.specs.Tree.{value_at}
use Rattle.widget_model.specs.View.{look_in, plain_of}
use Rattle.plain_tree.specs.RenderRole.{render_role_of}
use Rattle.plain_tree.specs.Render.{lazy_count}
use Rattle.render_tree.proofs.Keeping.{own_keeps}
use Rattle.render_tree.proofs.changes.keeps_own.Goals as goal

pub returns : goal.returns
returns c =
    own_keeps c.args.tree.now c.args.entry.now c.in-Some.object.now (ap (value_at c.args.tree.now) (sym c.at.ensures) ∙ sym c.in-Some.ensures) c.deref.result.now c.deref-2.result.now
    (ap plain_of c.deref.ensures ∙ (ap (λ u. u.widget) c.behind-entry.view_is ∙ ap (λ u. u.widget) c.update.ensures)) (ap plain_of c.deref-2.ensures ∙ ap (λ o. o.widget) c.object.view_is)
    c.both.result c.is_same_for_layout-same.result c.lazy_count.result c.lazy_count-2.result c.both.ensures c.is_same_for_layout-same.ensures
    (c.lazy_count.ensures ∙ ap (λ w. lazy_count (render_role_of (look_in w.kind)) w.children) (c.deref-3.ensures ∙ sym c.deref.ensures))
    (c.lazy_count-2.ensures ∙ ap (λ w. lazy_count (render_role_of (look_in w.kind)) w.children) (c.deref-4.ensures ∙ sym c.deref-2.ensures))
