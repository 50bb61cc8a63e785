use Rattle.std.proofs.Common.{◌≡◌, Some, sym, subst}
use Rattle.render_tree.specs.Tree.{object_at}
use Rattle.renewed_builds.specs.Renewing.{Change}
use Rattle.frame_owner.specs.Redrawing.{CanOrder}
use Rattle.frame_owner.proofs.redrawing.plan_changes.Goals as goal

pub plan_entry-requires-clause-there : goal.plan_entry-requires-clause-there
plan_entry-requires-clause-there c =
    let there = c.requires.each c.loop-change.change-index c.change-item.result c.loop-change-test.true in
    (there.0, subst (λ (x : Change). object_at c.args.r.now.tree x.at ≡ Some there.0) (sym c.change-item.is) there.1)

pub plan_entry-requires-clause-order : goal.plan_entry-requires-clause-order
plan_entry-requires-clause-order c =
    subst (λ (x : Change). CanOrder c.args.r.now.tree x) (sym c.change-item.is) (c.requires.orders c.loop-change.change-index c.change-item.result c.loop-change-test.true)
