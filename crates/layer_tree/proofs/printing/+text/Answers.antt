use Rattle.std.proofs.Common.{arith, ap, ◌∙◌}
use Rattle.layer_tree.specs.LayerItemCode.{weight}
use Rattle.layer_tree.proofs.WeightLemmas.{layer_lighter, item_lighter}
use Rattle.layer_tree.proofs.printing.+text.Goals as goal

pub push_item-push_layer-requires : goal.push_item-push_layer-requires
push_item-push_layer-requires t c =
    let lighter = layer_lighter c.args.item.now c.in-Layer.layer c.in-Layer.is in
    (omega (arith, lighter, c.decreases), c.requires)

pub push_layer-push_items-requires : goal.push_layer-push_items-requires
push_layer-push_items-requires t c =
    let same = ap weight c.get.ensures in
    (omega (arith, same, c.decreases), tt)

pub push_items-push_item-requires : goal.push_items-push_item-requires
push_items-push_item-requires t c =
    let lighter = item_lighter c.args.items.now c.loop-item.item-index c.item-item.result c.loop-item-test.true c.item-item.is in
    (omega (arith, lighter, c.decreases), c.as_slice.ensures.value ∙ c.in_ok-inner.ensures)
