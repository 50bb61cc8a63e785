-- An item of the code as a plain one: one level, since an item's list is seen as its plain items already.
use Rattle.layer_tree.specs.LayerItem.{LayerItem, drawn, nested, items_of}
use Rattle.layer_tree.specs.declared.layers.Item.{Item}
use Rattle.layer_tree.specs.declared.layers.Item.TheVariants as item

abbrev pub item_of : Item → LayerItem
item_of (item.Record r) = drawn r
item_of (item.Layer l) = nested l.kind (items_of l.items)
