use Rattle.std.proofs.Common.{arith, ap}
use Rattle.layer_tree.specs.LayerItemCode.{weight}
use Rattle.layer_tree.proofs.WeightLemmas.{layer_lighter, item_lighter}
use Rattle.cell_raster.proofs.drawing.+gathering.Goals as goal

pub gather_item-gather_layer-requires : goal.gather_item-gather_layer-requires
gather_item-gather_layer-requires t c =
    let lighter = layer_lighter c.args.item.now c.in-Layer.layer c.in-Layer.is in omega (arith, lighter, c.decreases)

pub gather_layer-gather_items-requires : goal.gather_layer-gather_items-requires
gather_layer-gather_items-requires t c = let same = ap weight c.get.ensures in omega (arith, same, c.decreases)

pub gather_items-gather_item-requires : goal.gather_items-gather_item-requires
gather_items-gather_item-requires t c =
    let lighter = item_lighter c.args.items.now c.loop-item.item-index c.item-item.result c.loop-item-test.true c.item-item.is in
    omega (arith, lighter, c.decreases)
