-- Boxes with at most one child (RenderProxyBox, RenderShiftedBox, RenderConstrainedBox). Each kind says what bounds its
-- child gets, what size the box takes, by the child's where there is one, and where the child stands.
use Rattle.std.specs.Prelude.{ℕ, ℤ, Bool, true, false, Option, Some, None, [], ◌∷◌, unwrap_or, option_map, if◌then◌else◌}
use Rattle.fx_geom.specs.declared.boxes.Bounds.{Bounds}
use Rattle.fx_geom.specs.declared.shapes.Axis.TheVariants.{Horizontal, Vertical}
use Rattle.fx_geom.specs.declared.shapes.Insets.{Insets}
use Rattle.fx_geom.specs.declared.shapes.Offset.{Offset}
use Rattle.fx_geom.specs.declared.shapes.Size.{Size}
use Rattle.fx_geom.specs.Along.{is_tight_along}
use Rattle.fx_geom.specs.Bounds.{bounds_of, constrain, smallest, loosen, tighten, enforce, deflate}
use Rattle.fx_geom.specs.Insets.{inflated}
use Rattle.fx_geom.specs.Len.{len_of, finite_or}
use Rattle.fx_geom.specs.Offset.{origin, offset_clamped, top_left_of}
use Rattle.fx_geom.specs.Size.{no_size}
use Rattle.flex_layout.specs.Flex.{align_of}
use Rattle.delegates.specs.Meaning.{Meaning}
use Rattle.delegates.specs.Answers.{own_size_of, child_bounds_of, place_of}
use Rattle.delegates.specs.Table.{meaning_of}
use Rattle.widget_model.specs.Look.{Look, sized_box, constrained_box, padding, align, colored_box, text, row, column, wrap, table, stack, flexible, positioned, opacity, clip_rect, repaint_boundary, merge_semantics, intrinsic_width, intrinsic_height, offstage, ignore_pointer, absorb_pointer, detector, semantics, exclude_semantics, custom_paint, custom_layout, viewport, sliver_to_box, sliver_padding, sliver_fixed, sliver_lazy, keep, inherit, component}
use Rattle.plain_tree.specs.Laid.{Laid}
use Rattle.layout_form.specs.Object.{Setting, Object, Done, sized, size_in, placed}

-- the bounds that the child gets, the size by the child's, and where the child stands, by both sizes
pub record Around : Type 0 where
  pub inner : Bounds
  pub size : Option Size → Size
  pub place : Size → Size → Offset

-- what comes of the laid child, or of none
abbrev pub single_done : Around → Option Laid → Done
single_done a None = sized (a.size None) []
single_done a (Some l) = let size = a.size (Some (size_in l)) in sized size (placed (a.place size (size_in l)) l ∷ [])

-- a box around its child, or without one
abbrev pub single : Around → Option Object → Done
single a None = single_done a None
single a (Some child) = single_done a (Some (child.in_bounds a.inner))

-- the child gets these bounds and gives the size; without a child the box takes the least size of its own bounds
abbrev pub passing : Bounds → Bounds → Around
passing inner b = record { inner = inner; size = λ child. unwrap_or child (smallest b); place = λ size child. origin }

-- a proxy: the child gets the same bounds
abbrev pub proxy : Bounds → Around
proxy b = passing b b

-- SizedBox, ConstrainedBox: the child gets the box's own bounds, enforced into those that it was given, and gives the
-- size; without a child the box is as small as they allow
abbrev pub within_own : Bounds → Bounds → Around
within_own own b = record {
  inner = enforce own b;
  size = λ child. unwrap_or child (constrain (enforce own b) no_size);
  place = λ size child. origin;
}

-- a SizedBox's sides are tight where they are given, and else from 0 to unbounded
abbrev pub sized_bounds : Option ℕ → Option ℕ → Bounds
sized_bounds width height = bounds_of (unwrap_or width 0) (len_of width) (unwrap_or height 0) (len_of height)

-- a ConstrainedBox's maximum that is below its minimum is the minimum
abbrev pub constrained_bounds : ℕ → Option ℕ → ℕ → Option ℕ → Bounds
constrained_bounds min_width max_width min_height max_height =
    bounds_of min_width (len_of max_width) min_height (len_of max_height)

abbrev pub insets_of : ℕ → ℕ → ℕ → ℕ → Insets
insets_of left top right bottom = record { left = left; top = top; right = right; bottom = bottom }

-- Padding: the child gets what the insets leave; the size is the child's with the insets, or that of the insets alone
abbrev pub padded_box : Insets → Bounds → Around
padded_box i b = record {
  inner = deflate b i;
  size = λ child. constrain b (inflated i (unwrap_or child no_size));
  place = λ size child. top_left_of i;
}

-- Align: the child may be smaller; each axis is the maximum where it is bounded, else the child's extent
abbrev pub filling : Bounds → Size → Size
filling b child = constrain b (record { w = finite_or b.max_w child.w; h = finite_or b.max_h child.h })

abbrev pub aligned_box : ℤ → ℤ → Bounds → Around
aligned_box ax ay b = record {
  inner = loosen b;
  size = λ child. filling b (unwrap_or child no_size);
  place = λ size child. record { x = align_of size.w child.w ax; y = align_of size.h child.h ay };
}

-- Offstage, offstage: the child is laid out in the same bounds, and takes no room
abbrev pub hidden_box : Bounds → Around
hidden_box b = record { inner = b; size = λ child. smallest b; place = λ size child. origin }

-- an Offstage that isn't offstage is a proxy
abbrev pub offstage_box : Bool → Bounds → Around
offstage_box true b = hidden_box b
offstage_box false b = proxy b

-- IntrinsicWidth: a proxy whose child gets exactly the width that it would like at the greatest height, unless the width
-- is tight
abbrev pub as_wide : Bounds → ℕ → Bounds
as_wide b width = if is_tight_along b Horizontal then b else tighten b (Some width) None

-- IntrinsicHeight: the same with the axes exchanged
abbrev pub as_high : Bounds → ℕ → Bounds
as_high b height = if is_tight_along b Vertical then b else tighten b None (Some height)

-- CustomPaint: a proxy; without a child it takes its delegate's size, or the least one without a delegate
abbrev pub own_size_by : Option Size → Bounds → Size
own_size_by None b = smallest b
own_size_by (Some own) b = constrain b own

abbrev pub painted_box : Option Meaning → Bounds → Around
painted_box meaning b = record {
  inner = b;
  size = λ child. unwrap_or child (own_size_by (option_map (λ m. own_size_of m b) meaning) b);
  place = λ size child. origin;
}

-- CustomLayout: its delegate says its size, its child's bounds and the child's place; without a delegate it is a proxy
abbrev pub delegated_size_by : Option Size → Bounds → Option Size → Size
delegated_size_by None b child = unwrap_or child (smallest b)
delegated_size_by (Some own) b child = constrain b own

abbrev pub placed_by : Option Offset → Offset
placed_by None = origin
placed_by (Some place) = offset_clamped place

abbrev pub delegated_box : Option Meaning → Bounds → Around
delegated_box meaning b = record {
  inner = unwrap_or (option_map (λ m. child_bounds_of m b) meaning) b;
  size = λ child. delegated_size_by (option_map (λ m. own_size_of m b) meaning) b child;
  place = λ size child. placed_by (option_map (λ m. place_of m size child) meaning);
}

-- the rule of each kind with at most one child, where the child of an IntrinsicWidth or an IntrinsicHeight would like so much.
-- A kind of another sort has a rule of its own (Layout), and counts as a proxy here.
abbrev pub around : Setting → Look → Bounds → ℕ → Around
around s (sized_box width height) b liked = within_own (sized_bounds width height) b
around s (constrained_box min_width max_width min_height max_height) b liked = within_own (constrained_bounds min_width max_width min_height max_height) b
around s (padding left top right bottom) b liked = padded_box (insets_of left top right bottom) b
around s (align ax ay) b liked = aligned_box ax ay b
around s (colored_box color) b liked = proxy b
around s (text words color) b liked = proxy b
around s (row main cross size) b liked = proxy b
around s (column main cross size) b liked = proxy b
around s (wrap spacing run_spacing) b liked = proxy b
around s (table widths) b liked = proxy b
around s (stack ax ay fit) b liked = proxy b
around s (flexible flex fit) b liked = proxy b
around s (positioned left top right bottom width height) b liked = proxy b
around s (opacity alpha) b liked = proxy b
around s clip_rect b liked = proxy b
around s repaint_boundary b liked = proxy b
around s merge_semantics b liked = proxy b
around s intrinsic_width b liked = passing (as_wide b liked) b
around s intrinsic_height b liked = passing (as_high b liked) b
around s (offstage hidden) b liked = offstage_box hidden b
around s (ignore_pointer ignoring) b liked = proxy b
around s (absorb_pointer absorbing) b liked = proxy b
around s (detector behavior tap long vertical horizontal pan) b liked = proxy b
around s (semantics label button container) b liked = proxy b
around s (exclude_semantics excluding) b liked = proxy b
around s (custom_paint delegate) b liked = painted_box (meaning_of s.delegates delegate) b
around s (custom_layout delegate) b liked = delegated_box (meaning_of s.delegates delegate) b
around s (viewport axis) b liked = proxy b
around s sliver_to_box b liked = proxy b
around s (sliver_padding left top right bottom) b liked = proxy b
around s (sliver_fixed extent) b liked = proxy b
around s (sliver_lazy extent) b liked = proxy b
around s (keep kept) b liked = proxy b
around s (inherit name value) b liked = proxy b
around s (component place props declaration) b liked = proxy b
