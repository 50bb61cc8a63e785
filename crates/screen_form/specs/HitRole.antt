-- How a node takes part in a hit test (HitTestBehavior).
use Rattle.std.specs.Prelude.{Bool, if◌then◌else◌}
use Rattle.widget_model.specs.declared.words.Behavior.{Behavior}
use Rattle.widget_model.specs.declared.words.Behavior.TheVariants as behavior
use Rattle.widget_model.specs.Look.{Look, sized_box, constrained_box, padding, align, colored_box, text, row, column, wrap, table, stack, flexible, positioned, opacity, clip_rect, repaint_boundary, merge_semantics, intrinsic_width, intrinsic_height, offstage, ignore_pointer, absorb_pointer, detector, semantics, exclude_semantics, custom_paint, custom_layout, viewport, sliver_to_box, sliver_padding, sliver_fixed, sliver_lazy, keep, inherit, component}
use Rattle.screen_form.specs.declared.hit_role.HitRole.{HitRole}
use Rattle.screen_form.specs.declared.hit_role.HitRole.TheVariants.{Ignores, Absorbs, Opaque, Translucent, Defers}

-- of a Detector, by its behavior
abbrev pub detector_role : Behavior → HitRole
detector_role behavior.Defer = Defers
detector_role behavior.Opaque = Opaque
detector_role behavior.Translucent = Translucent

-- of each kind, with or without a delegate of its name: Text, ColoredBox and a CustomPaint with a delegate count themselves
abbrev pub hit_role : Look → Bool → HitRole
hit_role (sized_box width height) plugged = Defers
hit_role (constrained_box min_width max_width min_height max_height) plugged = Defers
hit_role (padding left top right bottom) plugged = Defers
hit_role (align ax ay) plugged = Defers
hit_role (colored_box color) plugged = Opaque
hit_role (text words color) plugged = Opaque
hit_role (row main cross size) plugged = Defers
hit_role (column main cross size) plugged = Defers
hit_role (wrap spacing run_spacing) plugged = Defers
hit_role (table widths) plugged = Defers
hit_role (stack ax ay fit) plugged = Defers
hit_role (flexible flex fit) plugged = Defers
hit_role (positioned left top right bottom width height) plugged = Defers
hit_role (opacity alpha) plugged = Defers
hit_role clip_rect plugged = Defers
hit_role repaint_boundary plugged = Defers
hit_role merge_semantics plugged = Defers
hit_role intrinsic_width plugged = Defers
hit_role intrinsic_height plugged = Defers
hit_role (offstage hidden) plugged = if hidden then Ignores else Defers
hit_role (ignore_pointer ignoring) plugged = if ignoring then Ignores else Defers
hit_role (absorb_pointer absorbing) plugged = if absorbing then Absorbs else Defers
hit_role (detector behavior tap long vertical horizontal pan) plugged = detector_role behavior
hit_role (semantics label button container) plugged = Defers
hit_role (exclude_semantics excluding) plugged = Defers
hit_role (custom_paint delegate) plugged = if plugged then Opaque else Defers
hit_role (custom_layout delegate) plugged = Defers
hit_role (viewport axis) plugged = Defers
hit_role sliver_to_box plugged = Defers
hit_role (sliver_padding left top right bottom) plugged = Defers
hit_role (sliver_fixed extent) plugged = Defers
hit_role (sliver_lazy extent) plugged = Defers
hit_role (keep kept) plugged = Defers
hit_role (inherit name value) plugged = Defers
hit_role (component place props declaration) plugged = Defers
