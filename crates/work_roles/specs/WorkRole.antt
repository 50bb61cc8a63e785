-- What the kinds of render nodes are to the work of a frame: to the marks that say what is laid out and painted anew.
use Rattle.std.specs.Prelude.{Bool, true, false}
use Rattle.widget_model.specs.Look.{Look, sized_box, constrained_box, padding, align, colored_box, text, row, column, wrap, table, stack, flexible, positioned, opacity, clip_rect, repaint_boundary, merge_semantics, intrinsic_width, intrinsic_height, offstage, ignore_pointer, absorb_pointer, detector, semantics, exclude_semantics, custom_paint, custom_layout, viewport, sliver_to_box, sliver_padding, sliver_fixed, sliver_lazy, keep, inherit, component}

-- each kind is one of these
pub data WorkRole : Type 0 where
  -- an IntrinsicWidth or an IntrinsicHeight, which is laid out by the extents that all below it would like
  measures : WorkRole
  -- an Offstage, and whether it is offstage
  hides : Bool → WorkRole
  -- a Viewport
  scrolls : WorkRole
  -- a SliverLazy
  loads : WorkRole
  -- a RepaintBoundary
  fences : WorkRole
  -- any other kind
  plain : WorkRole

abbrev pub work_role_of : Look → WorkRole
work_role_of (sized_box width height) = plain
work_role_of (constrained_box min_width max_width min_height max_height) = plain
work_role_of (padding left top right bottom) = plain
work_role_of (align ax ay) = plain
work_role_of (colored_box color) = plain
work_role_of (text words color) = plain
work_role_of (row main cross size) = plain
work_role_of (column main cross size) = plain
work_role_of (wrap spacing run_spacing) = plain
work_role_of (table widths) = plain
work_role_of (stack ax ay fit) = plain
work_role_of (flexible flex fit) = plain
work_role_of (positioned left top right bottom width height) = plain
work_role_of (opacity alpha) = plain
work_role_of clip_rect = plain
work_role_of repaint_boundary = fences
work_role_of merge_semantics = plain
work_role_of intrinsic_width = measures
work_role_of intrinsic_height = measures
work_role_of (offstage hidden) = hides hidden
work_role_of (ignore_pointer ignoring) = plain
work_role_of (absorb_pointer absorbing) = plain
work_role_of (detector how tap long vertical horizontal pan) = plain
work_role_of (semantics label button container) = plain
work_role_of (exclude_semantics excluding) = plain
work_role_of (custom_paint delegate) = plain
work_role_of (custom_layout delegate) = plain
work_role_of (viewport axis) = scrolls
work_role_of sliver_to_box = plain
work_role_of (sliver_padding left top right bottom) = plain
work_role_of (sliver_fixed extent) = plain
work_role_of (sliver_lazy extent) = loads
work_role_of (keep kept) = plain
work_role_of (inherit name value) = plain
work_role_of (component place props declaration) = plain

-- a box that asks all below it what they would like
abbrev pub is_intrinsic_role : WorkRole → Bool
is_intrinsic_role measures = true
is_intrinsic_role (hides hidden) = false
is_intrinsic_role scrolls = false
is_intrinsic_role loads = false
is_intrinsic_role fences = false
is_intrinsic_role plain = false

abbrev pub is_intrinsic : Look → Bool
is_intrinsic look = is_intrinsic_role (work_role_of look)

-- an Offstage that is offstage
abbrev pub is_offstage_role : WorkRole → Bool
is_offstage_role measures = false
is_offstage_role (hides hidden) = hidden
is_offstage_role scrolls = false
is_offstage_role loads = false
is_offstage_role fences = false
is_offstage_role plain = false

abbrev pub is_offstage : Look → Bool
is_offstage look = is_offstage_role (work_role_of look)

-- a Viewport
abbrev pub is_viewport_role : WorkRole → Bool
is_viewport_role measures = false
is_viewport_role (hides hidden) = false
is_viewport_role scrolls = true
is_viewport_role loads = false
is_viewport_role fences = false
is_viewport_role plain = false

abbrev pub is_viewport : Look → Bool
is_viewport look = is_viewport_role (work_role_of look)

-- a lazy list
abbrev pub is_sliver_lazy_role : WorkRole → Bool
is_sliver_lazy_role measures = false
is_sliver_lazy_role (hides hidden) = false
is_sliver_lazy_role scrolls = false
is_sliver_lazy_role loads = true
is_sliver_lazy_role fences = false
is_sliver_lazy_role plain = false

abbrev pub is_sliver_lazy : Look → Bool
is_sliver_lazy look = is_sliver_lazy_role (work_role_of look)

-- a boundary of painting (RenderObject.isRepaintBoundary)
abbrev pub is_repaint_boundary_role : WorkRole → Bool
is_repaint_boundary_role measures = false
is_repaint_boundary_role (hides hidden) = false
is_repaint_boundary_role scrolls = false
is_repaint_boundary_role loads = false
is_repaint_boundary_role fences = true
is_repaint_boundary_role plain = false

abbrev pub is_repaint_boundary : Look → Bool
is_repaint_boundary look = is_repaint_boundary_role (work_role_of look)
