use Rattle.std.proofs.Common.{drop}
use Rattle.layout_form.specs.StackRule.{is_free}
use Rattle.layout_form.specs.Intrinsic.{extents_where}
use Rattle.kind_rules.proofs.Loops.{fills_start, fills_over}
use Rattle.kind_rules.proofs.Lists.{where_end, where_past, where_more}
use Rattle.kind_rules.proofs.liking.free_extents.Goals as goal

pub loop-i-init : goal.loop-i-init
loop-i-init c = fills_start (extents_where is_free c.args.told.now) c.args.extents.now _ c.new-free.ensures.items

pub returns : goal.returns
returns c =
    fills_over (extents_where is_free (drop c.loop-i.i c.args.told.now)) c.args.extents.now c.loop-i.i c.loop-i.free.items _ (where_end is_free (drop c.loop-i.i c.args.told.now)) c.loop-i-test.false c.loop-i.invariant

pub loop-i-preserved-in-None : goal.loop-i-preserved-in-None
loop-i-preserved-in-None c =
    where_past is_free c.args.told.now c.args.extents.now c.loop-i.i c.loop-i.free.items _ c.in-None.ensures.lookup.3 c.loop-i.invariant

pub loop-i-preserved : goal.loop-i-preserved
loop-i-preserved c =
    let found = c.in-Some.ensures.lookup in
    where_more is_free c.args.told.now c.args.extents.now c.loop-i.i c.in-Some.d.now _ c.loop-i.free.items c.push_if.new.extents.items _
    found.3.0 c.loop-i-test.true found.1 c.is_free.ensures c.in_ok-push_if-in-Some.ensures c.loop-i.invariant
