-- The families by which the code compares kinds, and the family of each kind.
use Rattle.widget_model.specs.Look.{Look, sized_box, constrained_box, padding, align, colored_box, text, row, column, wrap, table, stack, flexible, positioned, opacity, clip_rect, repaint_boundary, merge_semantics, intrinsic_width, intrinsic_height, offstage, ignore_pointer, absorb_pointer, detector, semantics, exclude_semantics, custom_paint, custom_layout, viewport, sliver_to_box, sliver_padding, sliver_fixed, sliver_lazy, keep, inherit, component}

pub data Family : Type 0 where
  -- SizedBox, ConstrainedBox
  sizing : Family
  -- Padding, Align
  placing : Family
  -- ColoredBox, Text, Opacity, ClipRect, RepaintBoundary
  painting : Family
  -- IntrinsicWidth, IntrinsicHeight, Offstage, IgnorePointer, AbsorbPointer
  passing : Family
  -- Semantics, MergeSemantics, ExcludeSemantics
  saying : Family
  -- Detector
  gestures : Family
  -- CustomPaint, CustomLayout
  delegated : Family
  -- Row, Column, Flexible
  flexed : Family
  -- Wrap, Table
  tabled : Family
  -- Stack, Positioned
  stacked : Family
  -- Viewport, SliverToBox, SliverPadding
  scrolled : Family
  -- SliverFixed, SliverLazy, Keep
  listed : Family
  -- Inherit, Use
  composed : Family

abbrev pub family_of : Look → Family
family_of (sized_box width height) = sizing
family_of (constrained_box min_width max_width min_height max_height) = sizing
family_of (padding left top right bottom) = placing
family_of (align ax ay) = placing
family_of (colored_box color) = painting
family_of (text words color) = painting
family_of (row main cross size) = flexed
family_of (column main cross size) = flexed
family_of (wrap spacing run_spacing) = tabled
family_of (table widths) = tabled
family_of (stack ax ay fit) = stacked
family_of (flexible flex fit) = flexed
family_of (positioned left top right bottom width height) = stacked
family_of (opacity alpha) = painting
family_of clip_rect = painting
family_of repaint_boundary = painting
family_of merge_semantics = saying
family_of intrinsic_width = passing
family_of intrinsic_height = passing
family_of (offstage hidden) = passing
family_of (ignore_pointer ignoring) = passing
family_of (absorb_pointer absorbing) = passing
family_of (detector behavior tap long vertical horizontal pan) = gestures
family_of (semantics label button container) = saying
family_of (exclude_semantics excluding) = saying
family_of (custom_paint delegate) = delegated
family_of (custom_layout delegate) = delegated
family_of (viewport axis) = scrolled
family_of sliver_to_box = scrolled
family_of (sliver_padding left top right bottom) = scrolled
family_of (sliver_fixed extent) = listed
family_of (sliver_lazy extent) = listed
family_of (keep kept) = listed
family_of (inherit name value) = composed
family_of (component place props declaration) = composed
