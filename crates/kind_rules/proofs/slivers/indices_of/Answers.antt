use Rattle.std.proofs.Common.{map, refl}
use Rattle.plain_tree.specs.declared.render.ParentData.{ParentData}
use Rattle.kind_rules.proofs.Loops.{fills_start, fills_over, maps_on}
use Rattle.kind_rules.proofs.slivers.indices_of.Goals as goal

pub loop-d-init : goal.loop-d-init
loop-d-init c = fills_start (map (λ (d : ParentData). d.index)) c.args.told.now _ c.in_ok-indices.ensures.items

pub loop-d-preserved : goal.loop-d-preserved
loop-d-preserved c =
    maps_on (λ (d : ParentData). d.index) c.args.told.now c.loop-d.d-index _ _ c.loop-d.indices.items _ _ c.loop-d-test.true c.in_ok-push.ensures.items
    refl c.loop-d.invariant

pub returns : goal.returns
returns c =
    fills_over (map (λ (d : ParentData). d.index)) c.args.told.now c.loop-d.d-index c.loop-d.indices.items _ refl c.loop-d-test.false c.loop-d.invariant
