use Rattle.std.proofs.Common.{arith, ap, ◌∙◌}
use Rattle.paint_owner.specs.PartCode.{weight}
use Rattle.paint_owner.specs.KeptParts.{any_place}
use Rattle.paint_owner.proofs.Keeping.{layer_place, place_found, place_not}
use Rattle.paint_owner.proofs.Weights.{layer_lighter, part_lighter}
use Rattle.paint_owner.proofs.kept_parts.+placing.Goals as goal

pub any_place-has_place-requires : goal.any_place-has_place-requires
any_place-has_place-requires t c =
    let lighter = part_lighter c.args.parts.now c.loop-part.part-index c.part-item.result c.loop-part-test.true c.part-item.is in
    (omega (arith, lighter, c.decreases), tt)

pub any_place-returns-then-has_place : goal.any_place-returns-then-has_place
any_place-returns-then-has_place t c =
    place_found c.args.parts.now c.loop-part.part-index c.part-item.result c.loop-part-test.true c.part-item.is c.has_place.result _ c.has_place.ensures c.if-has_place.true c.loop-part.invariant

pub any_place-loop-part-preserved : goal.any_place-loop-part-preserved
any_place-loop-part-preserved t c =
    place_not c.args.parts.now c.loop-part.part-index c.part-item.result c.loop-part-test.true c.part-item.is c.has_place.result _ c.has_place.ensures c.if-has_place.false c.loop-part.invariant

pub has_place-any_place-requires : goal.has_place-any_place-requires
has_place-any_place-requires t c =
    let lighter = layer_lighter c.args.part.now c.in-Layer.layer c.in-Layer.is in
    let same = ap weight c.get.ensures in
    (omega (arith, lighter, same, c.decreases), tt)

pub has_place-returns-in-Layer : goal.has_place-returns-in-Layer
has_place-returns-in-Layer t c = layer_place c.args.part.now c.in-Layer.layer c.in-Layer.is _ (c.any_place.ensures ∙ ap any_place c.get.ensures)
