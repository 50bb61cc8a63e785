use Rattle.std.proofs.Common.{◌∙◌, refl, subst, get_or}
use Rattle.fx_geom.specs.declared.scales.Scale.{Scale}
use Rattle.render_tree.specs.Edits.{Changes}
use Rattle.layout_owner.specs.Ranges.{ranged_one}
use Rattle.layout_owner.proofs.Listing.{zero_handle}
use Rattle.layout_owner.proofs.Ranging.{no_ranges, range_more}
use Rattle.layout_owner.proofs.ranges.set_ranges.Goals as goal

pub loop-h-init : goal.loop-h-init
loop-h-init c = (no_ranges c.args.r.now.scale.widen c.args.r.now.tree, refl, refl)

pub loop-h-preserved : goal.loop-h-preserved
loop-h-preserved c = (
  range_more c.args.r.now.scale.widen c.args.r.now.tree c.loop-h.r.tree c.set_range.new.r.tree c.args.lists.now c.loop-h.h-index zero_handle c.loop-h-test.true c.loop-h.invariant.0
      (subst (λ (x : Scale). Changes c.loop-h.r.tree c.set_range.new.r.tree (get_or c.args.lists.now c.loop-h.h-index zero_handle) (ranged_one x.widen)) c.loop-h.invariant.1 c.set_range.ensures.sets),
  c.set_range.ensures.scale ∙ c.loop-h.invariant.1,
  c.set_range.ensures.spent ∙ c.loop-h.invariant.2,
)
