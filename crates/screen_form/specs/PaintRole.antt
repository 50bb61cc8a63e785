-- What a node at a point is to painting: it hides what is below it, leaves it in its own layer, or makes a layer of its own
-- for it.
use Rattle.std.specs.Prelude.{ℕ, Bool, true, false, ◌==◌, if◌then◌else◌}
use Rattle.fx_geom.specs.declared.shapes.Offset.{Offset}
use Rattle.layer_tree.specs.declared.kind.LayerKind.TheVariants as kind
use Rattle.widget_model.specs.Look.{Look, sized_box, constrained_box, padding, align, colored_box, text, row, column, wrap, table, stack, flexible, positioned, opacity, clip_rect, repaint_boundary, merge_semantics, intrinsic_width, intrinsic_height, offstage, ignore_pointer, absorb_pointer, detector, semantics, exclude_semantics, custom_paint, custom_layout, viewport, sliver_to_box, sliver_padding, sliver_fixed, sliver_lazy, keep, inherit, component}
use Rattle.plain_tree.specs.declared.laid.Frame.{Frame}
use Rattle.plain_tree.specs.Shown.{box_size}
use Rattle.screen_form.specs.declared.paint_role.PaintRole.{PaintRole}
use Rattle.screen_form.specs.declared.paint_role.PaintRole.TheVariants.{Hides, Passes, Layers}
use Rattle.screen_form.specs.Hidden.{hides_below}

-- Opacity, of an alpha that isn't 0: its child is painted alone at 255, and is blended in a layer below that; without a
-- child there is no layer (RenderOpacity.paint)
abbrev pub faded : ℕ → Bool → Offset → PaintRole
faded alpha false p = Passes
faded alpha true p = if alpha == 255 then Passes else Layers (kind.Opacity p alpha)

-- a box that clips what is below it to its rectangle (RenderClipRect.paint, RenderViewport.paint)
abbrev pub clipped : Frame → Offset → PaintRole
clipped frame p = Layers (kind.Clip (record { at = p; size = box_size frame }))

-- what each kind does where it isn't hidden, with or without a child: a RepaintBoundary and a Viewport make a layer in any
-- case, a ClipRect and an Opacity only round a child
abbrev pub shown_role : Look → Frame → Bool → Offset → PaintRole
shown_role (sized_box width height) frame has_child p = Passes
shown_role (constrained_box min_width max_width min_height max_height) frame has_child p = Passes
shown_role (padding left top right bottom) frame has_child p = Passes
shown_role (align ax ay) frame has_child p = Passes
shown_role (colored_box color) frame has_child p = Passes
shown_role (text words color) frame has_child p = Passes
shown_role (row main cross size) frame has_child p = Passes
shown_role (column main cross size) frame has_child p = Passes
shown_role (wrap spacing run_spacing) frame has_child p = Passes
shown_role (table widths) frame has_child p = Passes
shown_role (stack ax ay fit) frame has_child p = Passes
shown_role (flexible flex fit) frame has_child p = Passes
shown_role (positioned left top right bottom width height) frame has_child p = Passes
shown_role (opacity alpha) frame has_child p = faded alpha has_child p
shown_role clip_rect frame has_child p = if has_child then clipped frame p else Passes
shown_role repaint_boundary frame has_child p = Layers (kind.Offset p)
shown_role merge_semantics frame has_child p = Passes
shown_role intrinsic_width frame has_child p = Passes
shown_role intrinsic_height frame has_child p = Passes
shown_role (offstage hidden) frame has_child p = Passes
shown_role (ignore_pointer ignoring) frame has_child p = Passes
shown_role (absorb_pointer absorbing) frame has_child p = Passes
shown_role (detector behavior tap long vertical horizontal pan) frame has_child p = Passes
shown_role (semantics label button container) frame has_child p = Passes
shown_role (exclude_semantics excluding) frame has_child p = Passes
shown_role (custom_paint delegate) frame has_child p = Passes
shown_role (custom_layout delegate) frame has_child p = Passes
shown_role (viewport axis) frame has_child p = clipped frame p
shown_role sliver_to_box frame has_child p = Passes
shown_role (sliver_padding left top right bottom) frame has_child p = Passes
shown_role (sliver_fixed extent) frame has_child p = Passes
shown_role (sliver_lazy extent) frame has_child p = Passes
shown_role (keep kept) frame has_child p = Passes
shown_role (inherit name value) frame has_child p = Passes
shown_role (component place props declaration) frame has_child p = Passes

abbrev pub paint_role : Look → Frame → Bool → Offset → PaintRole
paint_role look frame has_child p = if hides_below look frame then Hides else shown_role look frame has_child p
