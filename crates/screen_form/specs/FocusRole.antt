-- What a node is to the focus.
use Rattle.std.specs.Prelude.{Bool, ◌||◌, is_some, if◌then◌else◌}
use Rattle.widget_model.specs.Look.{Look, sized_box, constrained_box, padding, align, colored_box, text, row, column, wrap, table, stack, flexible, positioned, opacity, clip_rect, repaint_boundary, merge_semantics, intrinsic_width, intrinsic_height, offstage, ignore_pointer, absorb_pointer, detector, semantics, exclude_semantics, custom_paint, custom_layout, viewport, sliver_to_box, sliver_padding, sliver_fixed, sliver_lazy, keep, inherit, component}
use Rattle.plain_tree.specs.declared.laid.Frame.{Frame}
use Rattle.plain_tree.specs.Shown.{is_unseen}
use Rattle.screen_form.specs.declared.focus_role.FocusRole.{FocusRole}
use Rattle.screen_form.specs.declared.focus_role.FocusRole.TheVariants.{Hides, TakesFocus, Passes}
use Rattle.screen_form.specs.Hidden.{hides_below}

abbrev pub takes_where : Bool → FocusRole
takes_where taps = if taps then TakesFocus else Passes

-- of each kind, where it isn't hidden: a Detector with a tap can have the focus
abbrev pub shown_role : Look → FocusRole
shown_role (sized_box width height) = Passes
shown_role (constrained_box min_width max_width min_height max_height) = Passes
shown_role (padding left top right bottom) = Passes
shown_role (align ax ay) = Passes
shown_role (colored_box color) = Passes
shown_role (text words color) = Passes
shown_role (row main cross size) = Passes
shown_role (column main cross size) = Passes
shown_role (wrap spacing run_spacing) = Passes
shown_role (table widths) = Passes
shown_role (stack ax ay fit) = Passes
shown_role (flexible flex fit) = Passes
shown_role (positioned left top right bottom width height) = Passes
shown_role (opacity alpha) = Passes
shown_role clip_rect = Passes
shown_role repaint_boundary = Passes
shown_role merge_semantics = Passes
shown_role intrinsic_width = Passes
shown_role intrinsic_height = Passes
shown_role (offstage hidden) = Passes
shown_role (ignore_pointer ignoring) = Passes
shown_role (absorb_pointer absorbing) = Passes
shown_role (detector behavior tap long vertical horizontal pan) = takes_where (is_some tap)
shown_role (semantics label button container) = Passes
shown_role (exclude_semantics excluding) = Passes
shown_role (custom_paint delegate) = Passes
shown_role (custom_layout delegate) = Passes
shown_role (viewport axis) = Passes
shown_role sliver_to_box = Passes
shown_role (sliver_padding left top right bottom) = Passes
shown_role (sliver_fixed extent) = Passes
shown_role (sliver_lazy extent) = Passes
shown_role (keep kept) = Passes
shown_role (inherit name value) = Passes
shown_role (component place props declaration) = Passes

-- a node of which nothing is seen can't have the focus either
abbrev pub focus_role : Look → Frame → FocusRole
focus_role look frame = if is_unseen frame || hides_below look frame then Hides else shown_role look
