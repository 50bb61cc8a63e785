use Rattle.std.proofs.Common.{sym, ap, ◌∙◌}
use Rattle.node_tree.specs.Tree.{value_at}
use Rattle.widget_model.specs.View.{plain_of}
use Rattle.render_tree.proofs.Keeping.{look_keeps}
use Rattle.render_tree.proofs.changes.keeps_look.Goals as goal

pub returns : goal.returns
returns c =
    look_keeps c.args.tree.now c.args.entry.now c.in-Some.object.now (ap (value_at c.args.tree.now) (sym c.at.ensures) ∙ sym c.in-Some.ensures) c.deref.result.now c.deref-2.result.now
    (ap plain_of c.deref.ensures ∙ (ap (λ u. u.widget) c.behind-entry.view_is ∙ ap (λ u. u.widget) c.update.ensures)) (ap plain_of c.deref-2.ensures ∙ ap (λ o. o.widget) c.object.view_is)
    c.same_look.result c.same_look.ensures
