-- Where a render node stands in its tree, and where a relayout boundary is.
use Rattle.std.specs.Prelude.{Bool, true, false, not, ◌&&◌, ◌||◌}
use Rattle.fx_geom.specs.declared.boxes.Bounds.{Bounds}
use Rattle.fx_geom.specs.Bounds.{is_tight}
use Rattle.widget_model.specs.Look.{Look}
use Rattle.work_roles.specs.WorkRole.{is_intrinsic, is_offstage, is_viewport}

-- what a node has above it
pub record RegionPlace : Type 0 where
  -- nothing: it is the root
  pub top : Bool
  -- its parent is an Offstage that is offstage
  pub below_offstage : Bool
  -- an IntrinsicWidth or an IntrinsicHeight, at whatever distance
  pub below_intrinsic : Bool

abbrev pub at_root : RegionPlace
at_root = record { top = true; below_offstage = false; below_intrinsic = false }

-- where the children of a node of a kind stand that stands at a place
abbrev pub below : RegionPlace → Look → RegionPlace
below p look = record { top = false; below_offstage = is_offstage look; below_intrinsic = p.below_intrinsic || is_intrinsic look }

-- a box whose size follows from its bounds alone (RenderBox.sizedByParent)
abbrev pub is_sized_by_bounds : Look → Bool
is_sized_by_bounds look = is_viewport look || is_offstage look

-- a box of a kind and in bounds, whose layout tells nothing right above it: nothing is above, or it has one size that it may
-- take, or its size follows from its bounds, or its parent takes no size of it
abbrev pub ends_layout : Bool → Bool → Look → Bounds → Bool
ends_layout top below_offstage look bounds = top || (is_tight bounds || (is_sized_by_bounds look || below_offstage))

-- a box of a kind, at a place and in bounds, whose layout tells nothing above it (relayout boundary): it tells nothing right
-- above it, and no box above it asks what those below would like
abbrev pub is_relayout_boundary : RegionPlace → Look → Bounds → Bool
is_relayout_boundary p look bounds = not p.below_intrinsic && ends_layout p.top p.below_offstage look bounds
