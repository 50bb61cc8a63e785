-- What a layout depends on beside the tree, what a parent may ask of a child, and what the rule of a kind gives.
use Rattle.std.specs.Prelude.{ℕ, false, Option, Some, None, List, [], ◌∷◌, map}
use Rattle.fx_geom.specs.declared.boxes.Bounds.{Bounds}
use Rattle.fx_geom.specs.declared.lengths.Len.{Len}
use Rattle.fx_geom.specs.declared.scales.Scale.{Scale}
use Rattle.fx_geom.specs.declared.shapes.Axis.{Axis}
use Rattle.fx_geom.specs.declared.shapes.Offset.{Offset}
use Rattle.fx_geom.specs.declared.shapes.Size.{Size}
use Rattle.fx_geom.specs.Insets.{extent_of}
use Rattle.sliver_layout.specs.declared.protocol.Geometry.{Geometry}
use Rattle.sliver_layout.specs.declared.protocol.SliverBounds.{SliverBounds}
use Rattle.delegates.specs.Table.{Plug}
use Rattle.plain_tree.specs.declared.laid.Facts.{Facts}
use Rattle.plain_tree.specs.declared.laid.Frame.{Frame}
use Rattle.plain_tree.specs.declared.laid.Frame.TheVariants.{Boxed, Sliver}
use Rattle.plain_tree.specs.declared.laid.Notes.{Notes}
use Rattle.plain_tree.specs.declared.render.ParentData.{ParentData}
use Rattle.plain_tree.specs.Laid.{Laid, laid, Stood, list_of}
use Rattle.plain_tree.specs.Shown.{box_size}

-- what a layout depends on beside the tree: the size of a text cell, in u, and what the delegates mean
pub record Setting : Type 0 where
  pub cell : Size
  pub delegates : List Plug

abbrev pub setting_of : Scale → List Plug → Setting
setting_of scale delegates = record { cell = scale.cell; delegates = delegates }

-- what a parent may ask of a child (RenderObject): what it was told by the widgets between them; itself laid out, as a
-- box in bounds or as a sliver in a view; and the extent that it would like along an axis, where it may take so much
-- across it (getMaxIntrinsicWidth, getMaxIntrinsicHeight)
pub record Object : Type 0 where
  pub parent_data : ParentData
  pub in_bounds : Bounds → Laid
  pub in_view : SliverBounds → Laid
  pub greatest : Axis → Len → ℕ

-- what the rule of a box gives: its size, its notes, where a Viewport stands scrolled, and the laid children, each at its
-- offset
pub record Done : Type 0 where
  pub size : Size
  pub notes : Notes
  pub scrolled : ℕ
  pub children : List Stood

-- what the rule of a sliver gives
pub record Passed : Type 0 where
  pub geometry : Geometry
  pub children : List Stood

abbrev pub no_notes : Notes
no_notes = record { overflow = 0; unbounded = false }

-- a box of this size with these children, and nothing to remark
abbrev pub sized : Size → List Stood → Done
sized size children = record { size = size; notes = no_notes; scrolled = 0; children = children }

-- a sliver that gives nothing
abbrev pub no_geometry : Geometry
no_geometry = record { scroll = 0; paint = 0 }

abbrev pub no_passage : Passed
no_passage = record { geometry = no_geometry; children = [] }

-- what a layout gave to a node
abbrev pub facts_of : Laid → Facts
facts_of (laid number look facts children) = facts

abbrev pub stood_in : Laid → List Stood
stood_in (laid number look facts children) = list_of children

-- what a sliver gives; a box gives nothing
abbrev pub frame_geometry : Frame → Geometry
frame_geometry (Boxed bounds size) = no_geometry
frame_geometry (Sliver bounds geometry) = geometry

abbrev pub size_in : Laid → Size
size_in l = box_size (facts_of l).frame

abbrev pub geometry_in : Laid → Geometry
geometry_in l = frame_geometry (facts_of l).frame

-- the sizes of laid children
abbrev pub sizes_in : List Laid → List Size
sizes_in ls = map size_in ls

-- the extents of sizes along an axis
abbrev pub extents_of : Axis → List Size → List ℕ
extents_of axis sizes = map (λ s. extent_of s axis) sizes

-- a laid child at its offset
abbrev pub placed : Offset → Laid → Stood
placed at l = record { at = at; child = l }

-- laid children at their offsets, one after another
abbrev pub placed_at : List Offset → List Laid → List Stood
placed_at [] ls = []
placed_at (at ∷ ats) [] = []
placed_at (at ∷ ats) (l ∷ ls) = placed at l ∷ placed_at ats ls

-- each child laid out in its own bounds
abbrev pub each_in : List Bounds → List Object → List Laid
each_in [] cs = []
each_in (b ∷ bs) [] = []
each_in (b ∷ bs) (c ∷ cs) = c.in_bounds b ∷ each_in bs cs

-- what the children were told
abbrev pub datas : List Object → List ParentData
datas cs = map (λ c. c.parent_data) cs

-- the child of a kind that has at most one
abbrev pub only_of : List Object → Option Object
only_of [] = None
only_of (c ∷ cs) = Some c
