use Rattle.std.proofs.Common.{drop, ap, ◌∙◌, ℕ}
use Rattle.layout_form.specs.Intrinsic.{shared_where}
use Rattle.kind_rules.proofs.Loops.{fills_start, fills_over}
use Rattle.kind_rules.proofs.Lists.{shared_end, shared_past, shared_more}
use Rattle.kind_rules.proofs.liking.shared_extents.Goals as goal

pub loop-i-init : goal.loop-i-init
loop-i-init c = fills_start (shared_where c.total_factor-total.result c.args.told.now) c.args.extents.now _ c.new-shared.ensures.items

pub returns : goal.returns
returns c =
    fills_over (shared_where c.total_factor-total.result (drop c.loop-i.i c.args.told.now)) c.args.extents.now c.loop-i.i c.loop-i.shared.items _ (shared_end c.total_factor-total.result (drop c.loop-i.i c.args.told.now)) c.loop-i-test.false c.loop-i.invariant
    ∙ ap (λ (n : ℕ). shared_where n c.args.told.now c.args.extents.now) c.total_factor-total.ensures

pub loop-i-preserved-in-None : goal.loop-i-preserved-in-None
loop-i-preserved-in-None c =
    shared_past c.total_factor-total.result c.args.told.now c.args.extents.now c.loop-i.i c.loop-i.shared.items _ c.in-None.ensures.lookup.3 c.loop-i.invariant

pub loop-i-preserved : goal.loop-i-preserved
loop-i-preserved c =
    let found = c.in-Some.ensures.lookup in
    shared_more c.total_factor-total.result c.args.told.now c.args.extents.now c.loop-i.i c.in-Some.d.now c.loop-i.shared.items c.push_shared.new.extents.items _
    found.3.0 c.loop-i-test.true found.1 c.in_ok-push_shared-in-Some.ensures c.loop-i.invariant
