use Rattle.std.proofs.Common.{map, refl}
use Rattle.fx_geom.specs.declared.shapes.Size.{Size}
use Rattle.kind_rules.proofs.Loops.{fills_start, fills_over, maps_on}
use Rattle.kind_rules.proofs.grid.heights_of.Goals as goal

pub loop-size-init : goal.loop-size-init
loop-size-init c = fills_start (map (λ (s : Size). s.h)) c.args.sizes.now _ c.in_ok-heights.ensures.items

pub loop-size-preserved : goal.loop-size-preserved
loop-size-preserved c =
    maps_on (λ (s : Size). s.h) c.args.sizes.now c.loop-size.size-index _ _ c.loop-size.heights.items _ _ c.loop-size-test.true c.in_ok-push.ensures.items
    refl c.loop-size.invariant

pub returns : goal.returns
returns c =
    fills_over (map (λ (s : Size). s.h)) c.args.sizes.now c.loop-size.size-index c.loop-size.heights.items _ refl c.loop-size-test.false c.loop-size.invariant
