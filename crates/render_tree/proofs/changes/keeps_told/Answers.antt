use Rattle.std.proofs.Common.{◌||◌, sym, ap, ◌∙◌}
use Rattle.node_tree.specs.Tree.{value_at}
use Rattle.widget_model.specs.View.{plain_of}
use Rattle.render_tree.specs.Changes.{hides_at}
use Rattle.render_tree.specs.Marks.{are_tight}
use Rattle.render_tree.specs.Object.{bounds_in}
use Rattle.render_tree.proofs.Keeping.{told_keeps}
use Rattle.render_tree.proofs.changes.keeps_told.Goals as goal

pub returns : goal.returns
returns c =
    told_keeps c.args.tree.now c.args.entry.now c.in-Some.object.now (ap (value_at c.args.tree.now) (sym c.at.ensures) ∙ sym c.in-Some.ensures) c.deref.result.now c.deref-2.result.now
    (ap plain_of c.deref.ensures ∙ (ap (λ u. u.widget) c.update.view_is ∙ ap (λ u. u.widget) c.update-update.ensures)) (ap plain_of c.deref-2.ensures ∙ ap (λ o. o.widget) c.object.view_is)
    c.both.result c.is_same_data-same.result c.is_sized_same-sized.result c.either-settled.result c.are_tight.result _ _ c.both.ensures
    c.is_sized_same-sized.ensures
    (c.either-settled.ensures ∙ (ap (λ b. b || c.are_tight.result) (c.hides.ensures ∙ ap (hides_at c.args.tree.now) c.parent.ensures)))
    (c.are_tight.ensures ∙ (ap are_tight c.bounds_in.ensures ∙ ap (λ o. are_tight (bounds_in o.frame)) c.object.view_is))
    c.is_same_data-same.ensures
    (ap (λ u. u.parent_data) c.update.view_is ∙ ap (λ u. u.parent_data) c.update-update.ensures) (ap (λ o. o.parent_data) c.object.view_is)
