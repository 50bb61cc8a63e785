use Rattle.std.proofs.Common.{drop}
use Rattle.layout_form.specs.Frames.{item_places}
use Rattle.kind_rules.proofs.Loops.{fills_start, fills_over}
use Rattle.kind_rules.proofs.Lists.{items_end}
use Rattle.kind_rules.proofs.slivers.item_places.Goals as goal

pub loop-i-init : goal.loop-i-init
loop-i-init c = fills_start (item_places c.args.b c.args.extent c.args.indices.now) c.args.frames.now _ c.new-places.ensures.items

pub returns : goal.returns
returns c =
    fills_over (item_places c.args.b c.args.extent (drop c.loop-i.i c.args.indices.now)) c.args.frames.now c.loop-i.i c.loop-i.places.items _
    (items_end c.args.b c.args.extent (drop c.loop-i.i c.args.indices.now)) c.loop-i-test.false c.loop-i.invariant
