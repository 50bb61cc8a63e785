use Rattle.std.proofs.Common.{◌≡◌, ◌+◌, ◌*◌, ◌++◌, map, drop}
use Rattle.layer_tree.specs.LayerItem.{items_of}
use Rattle.layer_tree.specs.LayerItemCode.{item_weight, weight}
use Rattle.layer_tree.specs.View.{item_of}
use Rattle.cell_raster.specs.Drawing.{drawings_in}
use Rattle.cell_raster.specs.Seen.{seen}
use Rattle.cell_raster.proofs.drawing.+gathering.Given as goal

abbrev pub decreases-gather_item : goal.decreases-gather_item
decreases-gather_item l = 3 * item_weight (item_of l.item.now)

abbrev pub decreases-gather_items : goal.decreases-gather_items
decreases-gather_items l = 3 * weight (map item_of l.items.now) + 1

abbrev pub decreases-gather_layer : goal.decreases-gather_layer
decreases-gather_layer l = 3 * weight l.layer.now.items + 2

abbrev pub invariant-gather_items-loop-item : goal.invariant-gather_items-loop-item
invariant-gather_items-loop-item l =
    map seen l.out.items ++ drawings_in (items_of (map item_of (drop l.item-index l.items))) l.at l.clip
    ≡ map seen l.fn.out.items ++ drawings_in (items_of (map item_of l.items)) l.at l.clip
