use Rattle.std.proofs.Common.{◌∙◌}
use Rattle.paint_owner.proofs.Children.{zero_handle}
use Rattle.paint_owner.proofs.Clearing.{flag_more}
use Rattle.paint_owner.proofs.settling.clear_flags.Goals as goal

pub loop-h-preserved : goal.loop-h-preserved
loop-h-preserved c = (
  flag_more c.args.tree.now.tree c.loop-h.tree.tree c.clear_paint.new.self.tree c.args.hs.now c.loop-h.h-index zero_handle c.loop-h-test.true c.loop-h.invariant.0 c.clear_paint.ensures.mark,
  c.clear_paint.ensures.scale ∙ c.loop-h.invariant.1,
  c.clear_paint.ensures.spent ∙ c.loop-h.invariant.2,
)
