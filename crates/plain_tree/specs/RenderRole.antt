-- What a kind is to the tree that is laid out.
use Rattle.std.specs.Prelude.{Bool, true, false}
use Rattle.widget_model.specs.declared.words.FlexFit.{FlexFit}
use Rattle.widget_model.specs.declared.words.FlexFit.TheVariants as flex_fit
use Rattle.widget_model.specs.Look.{Look, sized_box, constrained_box, padding, align, colored_box, text, row, column, wrap, table, stack, flexible, positioned, opacity, clip_rect, repaint_boundary, merge_semantics, intrinsic_width, intrinsic_height, offstage, ignore_pointer, absorb_pointer, detector, semantics, exclude_semantics, custom_paint, custom_layout, viewport, sliver_to_box, sliver_padding, sliver_fixed, sliver_lazy, keep, inherit, component}
use Rattle.plain_tree.specs.declared.role.RenderRole.{RenderRole}
use Rattle.plain_tree.specs.declared.role.RenderRole.TheVariants.{Composes, Shares, Places, Line, Pile, Lazy, Window, Plain}

-- whether a child fills its share
abbrev pub is_tight : FlexFit → Bool
is_tight flex_fit.Loose = false
is_tight flex_fit.Tight = true

-- components, Inherit, Keep, Flexible and Positioned have no render node; the others have one
abbrev pub render_role_of : Look → RenderRole
render_role_of (sized_box width height) = Plain
render_role_of (constrained_box min_width max_width min_height max_height) = Plain
render_role_of (padding left top right bottom) = Plain
render_role_of (align ax ay) = Plain
render_role_of (colored_box color) = Plain
render_role_of (text words color) = Plain
render_role_of (row main cross size) = Line
render_role_of (column main cross size) = Line
render_role_of (wrap spacing run_spacing) = Plain
render_role_of (table widths) = Plain
render_role_of (stack ax ay fit) = Pile
render_role_of (flexible flex fit) = Shares flex (is_tight fit)
render_role_of (positioned left top right bottom width height) =
    Places (record { left = left; top = top; right = right; bottom = bottom; width = width; height = height })
render_role_of (opacity alpha) = Plain
render_role_of clip_rect = Plain
render_role_of repaint_boundary = Plain
render_role_of merge_semantics = Plain
render_role_of intrinsic_width = Plain
render_role_of intrinsic_height = Plain
render_role_of (offstage hidden) = Plain
render_role_of (ignore_pointer ignoring) = Plain
render_role_of (absorb_pointer absorbing) = Plain
render_role_of (detector behavior tap long vertical horizontal pan) = Plain
render_role_of (semantics label button container) = Plain
render_role_of (exclude_semantics excluding) = Plain
render_role_of (custom_paint delegate) = Plain
render_role_of (custom_layout delegate) = Plain
render_role_of (viewport axis) = Window
render_role_of sliver_to_box = Plain
render_role_of (sliver_padding left top right bottom) = Plain
render_role_of (sliver_fixed extent) = Plain
render_role_of (sliver_lazy extent) = Lazy
render_role_of (keep kept) = Composes
render_role_of (inherit name value) = Composes
render_role_of (component place props declaration) = Composes

-- whether a kind of a role has no render node
abbrev pub vanishes : RenderRole → Bool
vanishes Composes = true
vanishes (Shares flex tight) = true
vanishes (Places placed) = true
vanishes Line = false
vanishes Pile = false
vanishes Lazy = false
vanishes Window = false
vanishes Plain = false

-- whether it can be scrolled
abbrev pub is_window : RenderRole → Bool
is_window Composes = false
is_window (Shares flex tight) = false
is_window (Places placed) = false
is_window Line = false
is_window Pile = false
is_window Lazy = false
is_window Window = true
is_window Plain = false
