use Rattle.std.proofs.Common.{◌∙◌, take}
use Rattle.paint_owner.proofs.Children.{zero_handle}
use Rattle.paint_owner.proofs.Clearing.{mark_more, still_calm, listed_at}
use Rattle.paint_owner.proofs.settling.clear_marks.Goals as goal

pub clear_paint_below-requires : goal.clear_paint_below-requires
clear_paint_below-requires c =
    let there = listed_at c.args.hs.now c.loop-h.h-index zero_handle c.loop-h-test.true in
    still_calm c.args.tree.now.tree c.loop-h.tree.tree (take c.loop-h.h-index c.args.hs.now) _ c.loop-h.invariant.0 (c.requires.holds _ there) (c.requires.calm _ there)

pub loop-h-preserved : goal.loop-h-preserved
loop-h-preserved c = (
  mark_more c.args.tree.now.tree c.loop-h.tree.tree c.clear_paint_below.new.self.tree c.args.hs.now c.loop-h.h-index zero_handle c.loop-h-test.true c.loop-h.invariant.0 c.clear_paint_below.ensures.mark,
  c.clear_paint_below.ensures.scale ∙ c.loop-h.invariant.1,
  c.clear_paint_below.ensures.spent ∙ c.loop-h.invariant.2,
)
