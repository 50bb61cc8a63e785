use Rattle.std.proofs.Common.{arith}
use Rattle.plain_layout.proofs.Lists.{measured_past}
use Rattle.plain_layout.proofs.slivers.measured_frames.Goals as goal

pub loop-i-preserved-in-None : goal.loop-i-preserved-in-None
loop-i-preserved-in-None c =
    measured_past c.args.axis c.args.cross c.args.children.now c.args.boxes.now c.loop-i.i c.loop-i.frames.items _ (omega (arith, c.in-None.ensures.lookup)) c.loop-i.invariant
