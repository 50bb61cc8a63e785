-- What is drawn of layers, in paint order: each record with the place of its layer in the view, and the clip around it.
use Rattle.std.specs.Prelude.{List, [], ◌∷◌, ◌++◌, Option, Some, None}
use Rattle.fx_geom.specs.declared.shapes.Offset.{Offset}
use Rattle.fx_geom.specs.declared.shapes.Rect.{Rect}
use Rattle.fx_geom.specs.Offset.{offset_sum, origin}
use Rattle.draw_records.specs.declared.record.Record.{Record}
use Rattle.layer_tree.specs.declared.kind.LayerKind.{LayerKind}
use Rattle.layer_tree.specs.declared.kind.LayerKind.TheVariants as kind
use Rattle.layer_tree.specs.declared.layers.Layer.{Layer}
use Rattle.layer_tree.specs.LayerItem.{LayerItem, drawn, nested, LayerItems, no_items, more_items, items_of}
use Rattle.cell_raster.specs.declared.area.Area.{Area}
use Rattle.cell_raster.specs.Area.{area_of, clipped_to}

pub record Drawing : Type 0 where
  pub what : Record
  pub at : Offset
  pub clip : Option Area

-- a rectangle of a layer that stands at a place
abbrev pub placed : Offset → Rect → Rect
placed at rect = record { at = offset_sum at rect.at; size = rect.size }

-- where what stands in a layer is placed: an Offset and an Opacity move it, a Clip leaves it
abbrev pub place_in : LayerKind → Offset → Offset
place_in (kind.Offset by) at = offset_sum at by
place_in (kind.Opacity by alpha) at = offset_sum at by
place_in (kind.Clip rect) at = at

-- the clip around what stands in a layer
abbrev pub clip_in : LayerKind → Offset → Option Area → Option Area
clip_in (kind.Offset by) at clip = clip
clip_in (kind.Opacity by alpha) at clip = clip
clip_in (kind.Clip rect) at clip = Some (clipped_to clip (area_of (placed at rect)))

-- what is drawn of an item of a layer that stands at a place with a clip around it
abbrev mutual
  pub drawings_of : LayerItem → Offset → Option Area → List Drawing
  drawings_of (drawn r) at clip = record { what = r; at = at; clip = clip } ∷ []
  drawings_of (nested k es) at clip = drawings_in es (place_in k at) (clip_in k at clip)

  pub drawings_in : LayerItems → Offset → Option Area → List Drawing
  drawings_in no_items at clip = []
  drawings_in (more_items e es) at clip = drawings_of e at clip ++ drawings_in es at clip

-- what is drawn of a frame's layers
abbrev pub frame_drawings : Layer → List Drawing
frame_drawings root = drawings_of (nested root.kind (items_of root.items)) origin None
