use Rattle.std.proofs.Common.{◌≡◌, ◌+◌, ◌*◌, ◌++◌, map, drop, false}
use Rattle.layer_tree.specs.LayerItem.{items_of}
use Rattle.layer_tree.specs.LayerItemCode.{item_weight, weight}
use Rattle.layer_tree.specs.View.{item_of}
use Rattle.layer_tree.specs.Printed.{items_text}
use Rattle.layer_tree.proofs.printing.+text.Given as goal

abbrev pub decreases-push_item : goal.decreases-push_item
decreases-push_item l = 3 * item_weight (item_of l.item.now)

abbrev pub decreases-push_items : goal.decreases-push_items
decreases-push_items l = 3 * weight (map item_of l.items.now) + 1

abbrev pub decreases-push_layer : goal.decreases-push_layer
decreases-push_layer l = 3 * weight l.layer.now.items + 2

abbrev pub invariant-push_items-loop-item : goal.invariant-push_items-loop-item
invariant-push_items-loop-item l =
    l.text.items ++ items_text l.in_picture l.indent (items_of (map item_of (drop l.item-index l.items)))
    ≡ l.fn.text.items ++ items_text false l.indent (items_of (map item_of l.items))
