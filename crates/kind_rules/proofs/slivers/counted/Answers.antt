use Rattle.std.proofs.Common.{refl}
use Rattle.layout_form.specs.SliverRule.{counted}
use Rattle.kind_rules.proofs.Lists.{counted_more}
use Rattle.kind_rules.proofs.Loops.{fills_start, fills_over}
use Rattle.kind_rules.proofs.slivers.counted.Goals as goal

pub loop-i-preserved : goal.loop-i-preserved
loop-i-preserved c =
    counted_more c.loop-i.i c.args.told.now c.loop-i.indices.items _ _ c.loop-i-test.true c.in_ok-push.ensures.items c.loop-i.invariant

pub loop-i-init : goal.loop-i-init
loop-i-init c = fills_start (counted 0) c.args.told.now _ c.in_ok-indices.ensures.items

pub returns : goal.returns
returns c =
    fills_over (counted c.loop-i.i) c.args.told.now c.loop-i.i c.loop-i.indices.items _ refl c.loop-i-test.false c.loop-i.invariant
