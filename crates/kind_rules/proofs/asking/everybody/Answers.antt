use Rattle.std.proofs.Common.{Some, refl}
use Rattle.layout_form.specs.Protocol.{everybody}
use Rattle.kind_rules.proofs.Lists.{same_more}
use Rattle.kind_rules.proofs.Loops.{fills_start, fills_over}
use Rattle.kind_rules.proofs.asking.everybody.Goals as goal

pub loop-child-preserved : goal.loop-child-preserved
loop-child-preserved c =
    same_more (Some c.args.ask) c.loop-child._child-index c.args.told.now c.loop-child.asks.items _ _ c.loop-child-test.true c.in_ok-push.ensures.items
    c.loop-child.invariant

pub loop-child-init : goal.loop-child-init
loop-child-init c = fills_start (everybody c.args.ask) c.args.told.now _ c.in_ok-asks.ensures.items

pub returns : goal.returns
returns c =
    fills_over (everybody c.args.ask) c.args.told.now c.loop-child._child-index c.loop-child.asks.items _ refl c.loop-child-test.false c.loop-child.invariant
