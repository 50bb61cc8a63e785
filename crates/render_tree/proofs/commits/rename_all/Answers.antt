use Rattle.std.proofs.Common.{◌+◌, ◌∷◌, drop, ap, sym, ◌∙◌}
use Rattle.std.proofs.lemmas.List.{drop_more}
use Rattle.render_tree.proofs.Planned.{renaming-more, renaming-end}
use Rattle.render_tree.proofs.commits.rename_all.Goals as goal

pub loop-entry-preserved : goal.loop-entry-preserved
loop-entry-preserved c =
    renaming-more c.args.tree.now c.args.plan.now c.loop-entry.entry-index c.entry-item.result c.args.users.now c.loop-entry.users c.rename.new.users c.requires
    (drop_more c.args.plan.now c.loop-entry.entry-index c.entry-item.result c.loop-entry-test.true ∙ ap (λ x. x ∷ drop (c.loop-entry.entry-index + 1) c.args.plan.now) (sym c.entry-item.is))
    c.loop-entry.invariant c.in_ok-rename.ensures

pub returns : goal.returns
returns c = renaming-end c.args.tree.now c.args.plan.now c.loop-entry.entry-index c.args.users.now c.loop-entry.users c.loop-entry-test.false c.loop-entry.invariant
