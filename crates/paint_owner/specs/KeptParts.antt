-- Parts that are kept with the layer that they give: where no place stands in them, they are the layer's items.
use Rattle.std.specs.Prelude.{Bool, true, false, ◌||◌, List, [], ◌∷◌, map}
use Rattle.layer_tree.specs.LayerItem.{LayerItem, drawn, nested, LayerItems, no_items, more_items}
use Rattle.kept_layers.specs.GroupPart.{GroupPart, record_part, layer_part, place_part, GroupParts, no_parts, more_parts}
use Rattle.paint_owner.specs.declared.kept_parts.StoredParts.{StoredParts}
use Rattle.paint_owner.specs.declared.kept_parts.StoredParts.TheVariants as stored

-- an item as a part
abbrev mutual
  pub unfilled : LayerItem → GroupPart
  unfilled (drawn r) = record_part r
  unfilled (nested k es) = layer_part k (unfilled_all es)

  pub unfilled_all : LayerItems → GroupParts
  unfilled_all no_items = no_parts
  unfilled_all (more_items e es) = more_parts (unfilled e) (unfilled_all es)

-- whether the place of a nested boundary stands in a part
abbrev mutual
  pub has_place : GroupPart → Bool
  has_place (record_part r) = false
  has_place (layer_part k ps) = some_place ps
  has_place (place_part h at) = true

  pub some_place : GroupParts → Bool
  some_place no_parts = false
  some_place (more_parts p ps) = has_place p || some_place ps

-- and in parts
abbrev pub any_place : List GroupPart → Bool
any_place [] = false
any_place (p ∷ ps) = has_place p || any_place ps

-- the parts that are stored
abbrev pub parts_in : StoredParts → List GroupPart
parts_in (stored.Closed items) = map unfilled items
parts_in (stored.Open parts) = parts
