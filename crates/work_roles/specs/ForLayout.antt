-- A kind as layout sees it.
use Rattle.std.specs.Prelude.{false, None, []}
use Rattle.widget_model.specs.declared.words.Behavior.TheVariants as behavior
use Rattle.widget_model.specs.Look.{Look, sized_box, constrained_box, padding, align, colored_box, text, row, column, wrap, table, stack, flexible, positioned, opacity, clip_rect, repaint_boundary, merge_semantics, intrinsic_width, intrinsic_height, offstage, ignore_pointer, absorb_pointer, detector, semantics, exclude_semantics, custom_paint, custom_layout, viewport, sliver_to_box, sliver_padding, sliver_fixed, sliver_lazy, keep, inherit, component}

-- a kind with the members that a layout reads, which are all but those that only painting, hits and semantics read
abbrev pub for_layout : Look → Look
for_layout (sized_box width height) = sized_box width height
for_layout (constrained_box min_width max_width min_height max_height) = constrained_box min_width max_width min_height max_height
for_layout (padding left top right bottom) = padding left top right bottom
for_layout (align ax ay) = align ax ay
for_layout (colored_box color) = colored_box 0
for_layout (text words color) = text words 0
for_layout (row main cross size) = row main cross size
for_layout (column main cross size) = column main cross size
for_layout (wrap spacing run_spacing) = wrap spacing run_spacing
for_layout (table widths) = table widths
for_layout (stack ax ay fit) = stack ax ay fit
for_layout (flexible flex fit) = flexible flex fit
for_layout (positioned left top right bottom width height) = positioned left top right bottom width height
for_layout (opacity alpha) = opacity 0
for_layout clip_rect = clip_rect
for_layout repaint_boundary = repaint_boundary
for_layout merge_semantics = merge_semantics
for_layout intrinsic_width = intrinsic_width
for_layout intrinsic_height = intrinsic_height
for_layout (offstage hidden) = offstage hidden
for_layout (ignore_pointer ignoring) = ignore_pointer false
for_layout (absorb_pointer absorbing) = absorb_pointer false
for_layout (detector how tap long vertical horizontal pan) = detector behavior.Defer None None None None None
for_layout (semantics label button container) = semantics [] false false
for_layout (exclude_semantics excluding) = exclude_semantics false
for_layout (custom_paint delegate) = custom_paint delegate
for_layout (custom_layout delegate) = custom_layout delegate
for_layout (viewport axis) = viewport axis
for_layout sliver_to_box = sliver_to_box
for_layout (sliver_padding left top right bottom) = sliver_padding left top right bottom
for_layout (sliver_fixed extent) = sliver_fixed extent
for_layout (sliver_lazy extent) = sliver_lazy extent
for_layout (keep kept) = keep kept
for_layout (inherit name value) = inherit name value
for_layout (component place props declaration) = component place props declaration
