-- What a repaint boundary keeps of its own part of the picture.
use Rattle.std.specs.Prelude.{List, [], ◌∷◌}
use Rattle.fx_handles.specs.declared.Handle.{Handle}
use Rattle.fx_geom.specs.declared.shapes.Offset.{Offset}
use Rattle.draw_records.specs.declared.record.Record.{Record}
use Rattle.layer_tree.specs.declared.kind.LayerKind.{LayerKind}
use Rattle.layer_tree.specs.declared.kind.LayerKind.TheVariants as kind
use Rattle.layer_tree.specs.LayerItem.{LayerItem, drawn, nested, LayerItems, no_items, more_items, items_of}

mutual
  -- a record that is drawn, a layer with its own parts, or the place where the layer of a boundary stands that is nested in it
  pub data GroupPart : Type 0 where
    record_part : Record → GroupPart
    layer_part : LayerKind → GroupParts → GroupPart
    place_part : Handle → Offset → GroupPart

  -- parts in paint order
  pub data GroupParts : Type 0 where
    no_parts : GroupParts
    more_parts : GroupPart → GroupParts → GroupParts

abbrev pub parts_of : List GroupPart → GroupParts
parts_of [] = no_parts
parts_of (p ∷ ps) = more_parts p (parts_of ps)

-- a part with the places filled: each with the layer of its boundary, which has these items and stands there
abbrev mutual
  pub fill : (Handle → List LayerItem) → GroupPart → LayerItem
  fill whole (record_part r) = drawn r
  fill whole (layer_part k ps) = nested k (fill_all whole ps)
  fill whole (place_part h at) = nested (kind.Offset at) (items_of (whole h))

  pub fill_all : (Handle → List LayerItem) → GroupParts → LayerItems
  fill_all whole no_parts = no_items
  fill_all whole (more_parts p ps) = more_items (fill whole p) (fill_all whole ps)
