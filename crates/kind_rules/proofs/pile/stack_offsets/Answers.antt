use Rattle.std.proofs.Common.{drop}
use Rattle.layout_form.specs.StackRule.{stack_offsets}
use Rattle.kind_rules.proofs.Loops.{fills_start, fills_over}
use Rattle.kind_rules.proofs.Lists.{offsets_end}
use Rattle.kind_rules.proofs.pile.stack_offsets.Goals as goal

pub loop-i-init : goal.loop-i-init
loop-i-init c = fills_start (stack_offsets c.args.at.ax c.args.at.ay c.args.stack c.args.told.now) c.args.sizes.now _ c.in_ok-offsets.ensures.items

pub returns : goal.returns
returns c =
    fills_over (stack_offsets c.args.at.ax c.args.at.ay c.args.stack (drop c.loop-i.i c.args.told.now)) c.args.sizes.now c.loop-i.i c.loop-i.offsets.items _ (offsets_end c.args.at.ax c.args.at.ay c.args.stack (drop c.loop-i.i c.args.told.now)) c.loop-i-test.false c.loop-i.invariant
