use Rattle.std.proofs.Common.{◌+◌, ◌∷◌, ◌++◌, [], true, cond, take, sym, ap, ◌∙◌}
use Rattle.std.proofs.lemmas.List.{take_more}
use Rattle.fx_handles.specs.Handle.{same}
use Rattle.indexmap.specs.IndexSet.{contains_by}
use Rattle.node_tree.specs.Part.{is_named}
use Rattle.build_owner.proofs.Leaving.{named_more}
use Rattle.build_owner.proofs.staying.named_by.Goals as goal

pub loop-entry-preserved : goal.loop-entry-preserved
unfolding same
loop-entry-preserved c = λ h.
    let so_far = take c.loop-entry.entry-index c.args.plan.now in
    c.in_ok-insert.ensures.updates.0 h
    ∙ ap (λ x. cond (same x h) true (contains_by (same h) c.loop-entry.named)) c.at.ensures
    ∙ ap (λ b. cond (same c.entry-item.result.at h) true b) (c.loop-entry.invariant h)
    ∙ named_more so_far c.entry-item.result h
    ∙ ap (λ es. is_named es h) (ap (λ x. so_far ++ x ∷ []) c.entry-item.is ∙ sym (take_more c.args.plan.now c.loop-entry.entry-index c.entry-item.result c.loop-entry-test.true))
