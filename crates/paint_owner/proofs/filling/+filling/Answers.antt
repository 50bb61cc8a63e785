use Rattle.std.proofs.Common.{arith, ap, ◌∙◌}
use Rattle.handle_shelf.specs.Shelf.{kept_at}
use Rattle.kept_layers.specs.KeptLayers.{or_nil, filled}
use Rattle.paint_owner.specs.PartCode.{weight}
use Rattle.paint_owner.proofs.Weights.{layer_lighter, part_lighter, layer_is, more_filled}
use Rattle.paint_owner.proofs.filling.+filling.Goals as goal

pub filled_part-filled_parts-requires : goal.filled_part-filled_parts-requires
filled_part-filled_parts-requires t c =
    let lighter = layer_lighter c.args.part.now c.in-Layer.layer c.in-Layer.is in
    let same = ap weight c.get.ensures in
    (omega (arith, lighter, same, c.decreases), tt)

pub filled_part-returns-in_ok-of-in-Layer : goal.filled_part-returns-in_ok-of-in-Layer
filled_part-returns-in_ok-of-in-Layer t c =
    layer_is c.args.part.now c.in-Layer.layer c.in-Layer.is _ _ (c.in_ok-of-in-Layer.ensures ∙ c.in_ok-items-in-Layer.ensures ∙ ap (filled (λ k. kept_at c.args.wholes.now k)) c.get.ensures)

pub filled_parts-filled_part-requires : goal.filled_parts-filled_part-requires
filled_parts-filled_part-requires t c =
    let lighter = part_lighter c.args.parts.now c.loop-part.part-index c.part-item.result c.loop-part-test.true c.part-item.is in
    (omega (arith, lighter, c.decreases), tt)

pub filled_parts-loop-part-preserved : goal.filled_parts-loop-part-preserved
filled_parts-loop-part-preserved t c =
    more_filled (λ k. or_nil (kept_at c.args.wholes.now k)) c.args.parts.now c.loop-part.part-index c.part-item.result c.loop-part.items.items c.push.new.self.items c.in_ok-filled_part.field-0
    c.loop-part-test.true c.part-item.is c.in_ok-filled_part.ensures c.in_ok-push.ensures.items c.loop-part.invariant
