-- Walks over slivers, as a program takes them.
use Rattle.std.specs.Prelude.{ℕ, ◌-◌, ◌^◌, ◌≤◌, Option, Some, None, List, [], ◌∷◌}
use Rattle.fx_geom.specs.declared.shapes.Axis.{Axis}
use Rattle.fx_geom.specs.declared.shapes.Insets.{Insets}
use Rattle.sliver_layout.specs.declared.protocol.Geometry.{Geometry}
use Rattle.sliver_layout.specs.declared.protocol.Walk.{Walk}
use Rattle.sliver_layout.specs.Slivers.{geometry_of, view_of, walk_past}
use Rattle.plain_tree.specs.declared.laid.Frame.{Frame}
use Rattle.layout_form.specs.Object.{frame_geometry}

-- the walk past a sliver, by how far it can be scrolled through
abbrev pub walk_by : Axis → ℕ → ℕ → Walk → Option Frame → Walk
walk_by axis main cross walk None = walk
walk_by axis main cross walk (Some f) = walk_past walk (geometry_of (view_of axis main cross walk) (frame_geometry f).scroll)

-- the walk past a sliver, by what it gave
abbrev pub walk_on : Walk → Option Frame → Walk
walk_on walk None = walk
walk_on walk (Some f) = walk_past walk (frame_geometry f)

-- no more of any of these slivers is painted than there is room for
abbrev pub IsSeen : ℕ → Walk → List Geometry → Type 0
IsSeen main walk [] = Unit {0}
IsSeen main walk (g ∷ gs) = (g.paint ≤ main - walk.at) × IsSeen main (walk_past walk g) gs

-- all four insets are lengths
pub record AreLengths (i : Insets) : Type 0 where
  pub left : i.left ≤ 2 ^ 40
  pub top : i.top ≤ 2 ^ 40
  pub right : i.right ≤ 2 ^ 40
  pub bottom : i.bottom ≤ 2 ^ 40
