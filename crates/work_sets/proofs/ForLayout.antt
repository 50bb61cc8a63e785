-- A layout reads no more of a kind than the members that count for it.
use Rattle.std.proofs.Common.{◌≡◌, ℕ, List, refl}
use Rattle.fx_geom.specs.declared.boxes.Bounds.{Bounds}
use Rattle.fx_geom.specs.declared.lengths.Len.{Len}
use Rattle.fx_geom.specs.declared.shapes.Axis.{Axis}
use Rattle.sliver_layout.specs.declared.protocol.SliverBounds.{SliverBounds}
use Rattle.widget_model.specs.Look.{Look, sized_box, constrained_box, padding, align, colored_box, text, row, column, wrap, table, stack, flexible, positioned, opacity, clip_rect, repaint_boundary, merge_semantics, intrinsic_width, intrinsic_height, offstage, ignore_pointer, absorb_pointer, detector, semantics, exclude_semantics, custom_paint, custom_layout, viewport, sliver_to_box, sliver_padding, sliver_fixed, sliver_lazy, keep, inherit, component}
use Rattle.layout_form.specs.Layout.{box_rule, sliver_rule, intrinsic_rule, delegate_of}
use Rattle.layout_form.specs.Object.{Setting, Object}
use Rattle.plain_tree.specs.RenderRole.{render_role_of}
use Rattle.work_roles.specs.ForLayout.{for_layout}

pub boxes_read : (s : Setting) (look : Look) (scroll : ℕ) (b : Bounds) (cs : List Object) → box_rule s (for_layout look) scroll b cs ≡ box_rule s look scroll b cs
boxes_read s (sized_box width height) scroll b cs = refl
boxes_read s (constrained_box min_width max_width min_height max_height) scroll b cs = refl
boxes_read s (padding left top right bottom) scroll b cs = refl
boxes_read s (align ax ay) scroll b cs = refl
boxes_read s (colored_box color) scroll b cs = refl
boxes_read s (text words color) scroll b cs = refl
boxes_read s (row main cross size) scroll b cs = refl
boxes_read s (column main cross size) scroll b cs = refl
boxes_read s (wrap spacing run_spacing) scroll b cs = refl
boxes_read s (table widths) scroll b cs = refl
boxes_read s (stack ax ay fit) scroll b cs = refl
boxes_read s (flexible flex fit) scroll b cs = refl
boxes_read s (positioned left top right bottom width height) scroll b cs = refl
boxes_read s (opacity alpha) scroll b cs = refl
boxes_read s clip_rect scroll b cs = refl
boxes_read s repaint_boundary scroll b cs = refl
boxes_read s merge_semantics scroll b cs = refl
boxes_read s intrinsic_width scroll b cs = refl
boxes_read s intrinsic_height scroll b cs = refl
boxes_read s (offstage hidden) scroll b cs = refl
boxes_read s (ignore_pointer ignoring) scroll b cs = refl
boxes_read s (absorb_pointer absorbing) scroll b cs = refl
boxes_read s (detector behavior tap long vertical horizontal pan) scroll b cs = refl
boxes_read s (semantics label button container) scroll b cs = refl
boxes_read s (exclude_semantics excluding) scroll b cs = refl
boxes_read s (custom_paint delegate) scroll b cs = refl
boxes_read s (custom_layout delegate) scroll b cs = refl
boxes_read s (viewport axis) scroll b cs = refl
boxes_read s sliver_to_box scroll b cs = refl
boxes_read s (sliver_padding left top right bottom) scroll b cs = refl
boxes_read s (sliver_fixed extent) scroll b cs = refl
boxes_read s (sliver_lazy extent) scroll b cs = refl
boxes_read s (keep kept) scroll b cs = refl
boxes_read s (inherit name value) scroll b cs = refl
boxes_read s (component place props declaration) scroll b cs = refl

pub slivers_read : (look : Look) (count : ℕ) (b : SliverBounds) (cs : List Object) → sliver_rule (for_layout look) count b cs ≡ sliver_rule look count b cs
slivers_read (sized_box width height) count b cs = refl
slivers_read (constrained_box min_width max_width min_height max_height) count b cs = refl
slivers_read (padding left top right bottom) count b cs = refl
slivers_read (align ax ay) count b cs = refl
slivers_read (colored_box color) count b cs = refl
slivers_read (text words color) count b cs = refl
slivers_read (row main cross size) count b cs = refl
slivers_read (column main cross size) count b cs = refl
slivers_read (wrap spacing run_spacing) count b cs = refl
slivers_read (table widths) count b cs = refl
slivers_read (stack ax ay fit) count b cs = refl
slivers_read (flexible flex fit) count b cs = refl
slivers_read (positioned left top right bottom width height) count b cs = refl
slivers_read (opacity alpha) count b cs = refl
slivers_read clip_rect count b cs = refl
slivers_read repaint_boundary count b cs = refl
slivers_read merge_semantics count b cs = refl
slivers_read intrinsic_width count b cs = refl
slivers_read intrinsic_height count b cs = refl
slivers_read (offstage hidden) count b cs = refl
slivers_read (ignore_pointer ignoring) count b cs = refl
slivers_read (absorb_pointer absorbing) count b cs = refl
slivers_read (detector behavior tap long vertical horizontal pan) count b cs = refl
slivers_read (semantics label button container) count b cs = refl
slivers_read (exclude_semantics excluding) count b cs = refl
slivers_read (custom_paint delegate) count b cs = refl
slivers_read (custom_layout delegate) count b cs = refl
slivers_read (viewport axis) count b cs = refl
slivers_read sliver_to_box count b cs = refl
slivers_read (sliver_padding left top right bottom) count b cs = refl
slivers_read (sliver_fixed extent) count b cs = refl
slivers_read (sliver_lazy extent) count b cs = refl
slivers_read (keep kept) count b cs = refl
slivers_read (inherit name value) count b cs = refl
slivers_read (component place props declaration) count b cs = refl

pub extents_read : (s : Setting) (look : Look) (along : Axis) (across : Len) (cs : List Object) → intrinsic_rule s (for_layout look) along across cs ≡ intrinsic_rule s look along across cs
extents_read s (sized_box width height) along across cs = refl
extents_read s (constrained_box min_width max_width min_height max_height) along across cs = refl
extents_read s (padding left top right bottom) along across cs = refl
extents_read s (align ax ay) along across cs = refl
extents_read s (colored_box color) along across cs = refl
extents_read s (text words color) along across cs = refl
extents_read s (row main cross size) along across cs = refl
extents_read s (column main cross size) along across cs = refl
extents_read s (wrap spacing run_spacing) along across cs = refl
extents_read s (table widths) along across cs = refl
extents_read s (stack ax ay fit) along across cs = refl
extents_read s (flexible flex fit) along across cs = refl
extents_read s (positioned left top right bottom width height) along across cs = refl
extents_read s (opacity alpha) along across cs = refl
extents_read s clip_rect along across cs = refl
extents_read s repaint_boundary along across cs = refl
extents_read s merge_semantics along across cs = refl
extents_read s intrinsic_width along across cs = refl
extents_read s intrinsic_height along across cs = refl
extents_read s (offstage hidden) along across cs = refl
extents_read s (ignore_pointer ignoring) along across cs = refl
extents_read s (absorb_pointer absorbing) along across cs = refl
extents_read s (detector behavior tap long vertical horizontal pan) along across cs = refl
extents_read s (semantics label button container) along across cs = refl
extents_read s (exclude_semantics excluding) along across cs = refl
extents_read s (custom_paint delegate) along across cs = refl
extents_read s (custom_layout delegate) along across cs = refl
extents_read s (viewport direction) along across cs = refl
extents_read s sliver_to_box along across cs = refl
extents_read s (sliver_padding left top right bottom) along across cs = refl
extents_read s (sliver_fixed extent) along across cs = refl
extents_read s (sliver_lazy extent) along across cs = refl
extents_read s (keep kept) along across cs = refl
extents_read s (inherit name value) along across cs = refl
extents_read s (component place props declaration) along across cs = refl

pub roles_read : (look : Look) → (render_role_of (for_layout look) ≡ render_role_of look) × (delegate_of (for_layout look) ≡ delegate_of look)
roles_read (sized_box width height) = (refl, refl)
roles_read (constrained_box min_width max_width min_height max_height) = (refl, refl)
roles_read (padding left top right bottom) = (refl, refl)
roles_read (align ax ay) = (refl, refl)
roles_read (colored_box color) = (refl, refl)
roles_read (text words color) = (refl, refl)
roles_read (row main cross size) = (refl, refl)
roles_read (column main cross size) = (refl, refl)
roles_read (wrap spacing run_spacing) = (refl, refl)
roles_read (table widths) = (refl, refl)
roles_read (stack ax ay fit) = (refl, refl)
roles_read (flexible flex fit) = (refl, refl)
roles_read (positioned left top right bottom width height) = (refl, refl)
roles_read (opacity alpha) = (refl, refl)
roles_read clip_rect = (refl, refl)
roles_read repaint_boundary = (refl, refl)
roles_read merge_semantics = (refl, refl)
roles_read intrinsic_width = (refl, refl)
roles_read intrinsic_height = (refl, refl)
roles_read (offstage hidden) = (refl, refl)
roles_read (ignore_pointer ignoring) = (refl, refl)
roles_read (absorb_pointer absorbing) = (refl, refl)
roles_read (detector behavior tap long vertical horizontal pan) = (refl, refl)
roles_read (semantics label button container) = (refl, refl)
roles_read (exclude_semantics excluding) = (refl, refl)
roles_read (custom_paint delegate) = (refl, refl)
roles_read (custom_layout delegate) = (refl, refl)
roles_read (viewport axis) = (refl, refl)
roles_read sliver_to_box = (refl, refl)
roles_read (sliver_padding left top right bottom) = (refl, refl)
roles_read (sliver_fixed extent) = (refl, refl)
roles_read (sliver_lazy extent) = (refl, refl)
roles_read (keep kept) = (refl, refl)
roles_read (inherit name value) = (refl, refl)
roles_read (component place props declaration) = (refl, refl)
