-- What stands in a layer, as plain nested data.
use Rattle.std.specs.Prelude.{List, [], ◌∷◌}
use Rattle.draw_records.specs.declared.record.Record.{Record}
use Rattle.layer_tree.specs.declared.kind.LayerKind.{LayerKind}

mutual
  -- a record that is drawn, or a layer with its own items
  pub data LayerItem : Type 0 where
    drawn : Record → LayerItem
    nested : LayerKind → LayerItems → LayerItem

  -- items in paint order
  pub data LayerItems : Type 0 where
    no_items : LayerItems
    more_items : LayerItem → LayerItems → LayerItems

abbrev pub items_of : List LayerItem → LayerItems
items_of [] = no_items
items_of (e ∷ es) = more_items e (items_of es)
