use Rattle.std.proofs.Common.{◌∙◌, subst}
use Rattle.fx_handles.specs.declared.Handle.{Handle}
use Rattle.widget_model.specs.Plain.{PlainWidget}
use Rattle.widget_model.specs.View.{shared}
use Rattle.render_tree.specs.Edits.{Changes, with_widget}
use Rattle.frame_owner.proofs.Written.{one_written}
use Rattle.frame_owner.proofs.redrawing.put_widgets.Goals as goal

pub loop-change-preserved : goal.loop-change-preserved
loop-change-preserved c =
    let old = c.loop-change.r.tree in
    let new = c.update_unmarked.new.self.tree in
    let change = c.change-item.result in
    let so_far = c.loop-change.invariant in
    let put = c.in_ok-update_unmarked.ensures in (
      one_written c.args.changes.now c.loop-change.change-index change c.args.r.now.tree old new c.requires c.loop-change-test.true c.change-item.is so_far.0
          (subst (λ (w : PlainWidget). Changes old new change.at (with_widget w)) c.widget.ensures (subst (λ (h : Handle). Changes old new h (with_widget (shared c.widget.result.now))) c.at.ensures put.changes)),
      put.scale ∙ so_far.1,
      put.spent ∙ so_far.2,
    )
