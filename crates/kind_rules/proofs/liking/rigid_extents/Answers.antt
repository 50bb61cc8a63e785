use Rattle.std.proofs.Common.{drop}
use Rattle.layout_form.specs.FlexRule.{is_rigid}
use Rattle.layout_form.specs.Intrinsic.{extents_where}
use Rattle.kind_rules.proofs.Loops.{fills_start, fills_over}
use Rattle.kind_rules.proofs.Lists.{where_end, where_past}
use Rattle.kind_rules.proofs.liking.rigid_extents.Goals as goal

pub loop-i-init : goal.loop-i-init
loop-i-init c = fills_start (extents_where is_rigid c.args.told.now) c.args.extents.now _ c.new-rigid.ensures.items

pub returns : goal.returns
returns c =
    fills_over (extents_where is_rigid (drop c.loop-i.i c.args.told.now)) c.args.extents.now c.loop-i.i c.loop-i.rigid.items _ (where_end is_rigid (drop c.loop-i.i c.args.told.now)) c.loop-i-test.false c.loop-i.invariant

pub loop-i-preserved-in-None : goal.loop-i-preserved-in-None
loop-i-preserved-in-None c =
    where_past is_rigid c.args.told.now c.args.extents.now c.loop-i.i c.loop-i.rigid.items _ c.in-None.ensures.lookup.3 c.loop-i.invariant
