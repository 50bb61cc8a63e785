-- What a kind is to a build.
use Rattle.std.specs.Prelude.{ℕ, Bool, true, false, List}
use Rattle.fx_expr.specs.declared.values.Value.{Value}
use Rattle.widget_model.specs.Look.{Look, sized_box, constrained_box, padding, align, colored_box, text, row, column, wrap, table, stack, flexible, positioned, opacity, clip_rect, repaint_boundary, merge_semantics, intrinsic_width, intrinsic_height, offstage, ignore_pointer, absorb_pointer, detector, semantics, exclude_semantics, custom_paint, custom_layout, viewport, sliver_to_box, sliver_padding, sliver_fixed, sliver_lazy, keep, inherit, component}

pub data BuildRole : Type 0 where
  -- a component, by its place in the program's list, with its props: its child is what its body gives
  composes : ℕ → List Value → BuildRole
  -- an Inherit: it gives a value to a name
  provides : ℕ → Value → BuildRole
  -- a Keep, and whether it keeps its child
  keeps : Bool → BuildRole
  -- a SliverLazy, with the extent of each child: its children are entered when a layout has said which are near what is seen
  lists : ℕ → BuildRole
  -- any other kind
  holds : BuildRole

abbrev pub build_role_of : Look → BuildRole
build_role_of (sized_box width height) = holds
build_role_of (constrained_box min_width max_width min_height max_height) = holds
build_role_of (padding left top right bottom) = holds
build_role_of (align ax ay) = holds
build_role_of (colored_box color) = holds
build_role_of (text words color) = holds
build_role_of (row main cross size) = holds
build_role_of (column main cross size) = holds
build_role_of (wrap spacing run_spacing) = holds
build_role_of (table widths) = holds
build_role_of (stack ax ay fit) = holds
build_role_of (flexible flex fit) = holds
build_role_of (positioned left top right bottom width height) = holds
build_role_of (opacity alpha) = holds
build_role_of clip_rect = holds
build_role_of repaint_boundary = holds
build_role_of merge_semantics = holds
build_role_of intrinsic_width = holds
build_role_of intrinsic_height = holds
build_role_of (offstage hidden) = holds
build_role_of (ignore_pointer ignoring) = holds
build_role_of (absorb_pointer absorbing) = holds
build_role_of (detector behavior tap long vertical horizontal pan) = holds
build_role_of (semantics label button container) = holds
build_role_of (exclude_semantics excluding) = holds
build_role_of (custom_paint delegate) = holds
build_role_of (custom_layout delegate) = holds
build_role_of (viewport axis) = holds
build_role_of sliver_to_box = holds
build_role_of (sliver_padding left top right bottom) = holds
build_role_of (sliver_fixed extent) = holds
build_role_of (sliver_lazy extent) = lists extent
build_role_of (keep kept) = keeps kept
build_role_of (inherit name value) = provides name value
build_role_of (component place props declaration) = composes place props

-- whether a kind is a lazy list
abbrev pub is_lazy : BuildRole → Bool
is_lazy (composes place props) = false
is_lazy (provides name value) = false
is_lazy (keeps kept) = false
is_lazy (lists extent) = true
is_lazy holds = false
