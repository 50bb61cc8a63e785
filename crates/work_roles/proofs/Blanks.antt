-- What is left of a kind for layout.
use Rattle.std.proofs.Common.{◌≡◌, refl}
use Rattle.widget_model.specs.Look.{Look, sized_box, constrained_box, padding, align, colored_box, text, row, column, wrap, table, stack, flexible, positioned, opacity, clip_rect, repaint_boundary, merge_semantics, intrinsic_width, intrinsic_height, offstage, ignore_pointer, absorb_pointer, detector, semantics, exclude_semantics, custom_paint, custom_layout, viewport, sliver_to_box, sliver_padding, sliver_fixed, sliver_lazy, keep, inherit, component}
use Rattle.work_roles.specs.ForLayout.{for_layout}
use Rattle.work_roles.specs.WorkRole.{work_role_of}

pub blank_once : (look : Look) → for_layout (for_layout look) ≡ for_layout look
blank_once (sized_box width height) = refl
blank_once (constrained_box min_width max_width min_height max_height) = refl
blank_once (padding left top right bottom) = refl
blank_once (align ax ay) = refl
blank_once (colored_box color) = refl
blank_once (text words color) = refl
blank_once (row main cross size) = refl
blank_once (column main cross size) = refl
blank_once (wrap spacing run_spacing) = refl
blank_once (table widths) = refl
blank_once (stack ax ay fit) = refl
blank_once (flexible flex fit) = refl
blank_once (positioned left top right bottom width height) = refl
blank_once (opacity alpha) = refl
blank_once clip_rect = refl
blank_once repaint_boundary = refl
blank_once merge_semantics = refl
blank_once intrinsic_width = refl
blank_once intrinsic_height = refl
blank_once (offstage hidden) = refl
blank_once (ignore_pointer ignoring) = refl
blank_once (absorb_pointer absorbing) = refl
blank_once (detector how tap long vertical horizontal pan) = refl
blank_once (semantics label button container) = refl
blank_once (exclude_semantics excluding) = refl
blank_once (custom_paint delegate) = refl
blank_once (custom_layout delegate) = refl
blank_once (viewport axis) = refl
blank_once sliver_to_box = refl
blank_once (sliver_padding left top right bottom) = refl
blank_once (sliver_fixed extent) = refl
blank_once (sliver_lazy extent) = refl
blank_once (keep kept) = refl
blank_once (inherit name value) = refl
blank_once (component place props declaration) = refl

pub same_role : (look : Look) → work_role_of (for_layout look) ≡ work_role_of look
same_role (sized_box width height) = refl
same_role (constrained_box min_width max_width min_height max_height) = refl
same_role (padding left top right bottom) = refl
same_role (align ax ay) = refl
same_role (colored_box color) = refl
same_role (text words color) = refl
same_role (row main cross size) = refl
same_role (column main cross size) = refl
same_role (wrap spacing run_spacing) = refl
same_role (table widths) = refl
same_role (stack ax ay fit) = refl
same_role (flexible flex fit) = refl
same_role (positioned left top right bottom width height) = refl
same_role (opacity alpha) = refl
same_role clip_rect = refl
same_role repaint_boundary = refl
same_role merge_semantics = refl
same_role intrinsic_width = refl
same_role intrinsic_height = refl
same_role (offstage hidden) = refl
same_role (ignore_pointer ignoring) = refl
same_role (absorb_pointer absorbing) = refl
same_role (detector how tap long vertical horizontal pan) = refl
same_role (semantics label button container) = refl
same_role (exclude_semantics excluding) = refl
same_role (custom_paint delegate) = refl
same_role (custom_layout delegate) = refl
same_role (viewport axis) = refl
same_role sliver_to_box = refl
same_role (sliver_padding left top right bottom) = refl
same_role (sliver_fixed extent) = refl
same_role (sliver_lazy extent) = refl
same_role (keep kept) = refl
same_role (inherit name value) = refl
same_role (component place props declaration) = refl
