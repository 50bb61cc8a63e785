-- Full layout: one rule for each kind, and the recursion over the tree.
use Rattle.std.specs.Prelude.{ℕ, Bool, false, is_some, Option, Some, None, List, [], ◌∷◌}
use Rattle.fx_geom.specs.declared.boxes.Bounds.{Bounds}
use Rattle.fx_geom.specs.declared.lengths.Len.{Len}
use Rattle.fx_geom.specs.declared.shapes.Axis.{Axis}
use Rattle.fx_geom.specs.declared.shapes.Axis.TheVariants.{Horizontal, Vertical}
use Rattle.fx_geom.specs.declared.shapes.Size.{Size}
use Rattle.fx_geom.specs.Bounds.{smallest, tight}
use Rattle.sliver_layout.specs.declared.protocol.SliverBounds.{SliverBounds}
use Rattle.delegates.specs.Table.{Plug, meaning_of}
use Rattle.widget_model.specs.Look.{Look, sized_box, constrained_box, padding, align, colored_box, text, row, column, wrap, table, stack, flexible, positioned, opacity, clip_rect, repaint_boundary, merge_semantics, intrinsic_width, intrinsic_height, offstage, ignore_pointer, absorb_pointer, detector, semantics, exclude_semantics, custom_paint, custom_layout, viewport, sliver_to_box, sliver_padding, sliver_fixed, sliver_lazy, keep, inherit, component}
use Rattle.plain_tree.specs.declared.laid.Frame.TheVariants.{Boxed, Sliver}
use Rattle.plain_tree.specs.Render.{Render, render, Renders, no_renders, more_renders}
use Rattle.plain_tree.specs.Laid.{Laid, laid, laids_of}
use Rattle.layout_form.specs.Object.{Setting, Object, Done, Passed, no_notes, sized, no_passage, only_of}
use Rattle.layout_form.specs.Single.{single, sized_bounds, constrained_bounds, insets_of, around}
use Rattle.layout_form.specs.TextRule.{text_rule, text_extent}
use Rattle.layout_form.specs.FlexRule.{flex_rule}
use Rattle.layout_form.specs.StackRule.{stack_rule}
use Rattle.layout_form.specs.WrapTable.{wrap_rule, table_rule, columns_of}
use Rattle.layout_form.specs.SliverRule.{viewport_rule, to_box_rule, padding_rule, fixed_rule, lazy_rule}
use Rattle.layout_form.specs.Intrinsic.{child_extent, liked_by, own_extent, padded_extent, hidden_extent, stack_extent, flex_extent, wrap_extent, table_extent}

-- what has no box of its own: a sliver, and what isn't laid out. Where a box is asked for it takes the least size.
abbrev pub no_box : Bounds → Done
no_box b = sized (smallest b) []

-- a kind with at most one child: what it is around the child (`around`), by what the child would like where that counts
abbrev pub around_rule : Setting → Look → Bounds → List Object → Done
around_rule s look b cs = single (around s look b (liked_by look b (only_of cs))) (only_of cs)

-- the rule of each kind for a box in bounds, where a Viewport was scrolled so far
abbrev pub box_rule : Setting → Look → ℕ → Bounds → List Object → Done
box_rule s (sized_box width height) scroll b cs = around_rule s (sized_box width height) b cs
box_rule s (constrained_box min_width max_width min_height max_height) scroll b cs = around_rule s (constrained_box min_width max_width min_height max_height) b cs
box_rule s (padding left top right bottom) scroll b cs = around_rule s (padding left top right bottom) b cs
box_rule s (align ax ay) scroll b cs = around_rule s (align ax ay) b cs
box_rule s (colored_box color) scroll b cs = around_rule s (colored_box color) b cs
box_rule s (text words color) scroll b cs = text_rule s.cell words b
box_rule s (row main cross size) scroll b cs = flex_rule Horizontal main cross size b cs
box_rule s (column main cross size) scroll b cs = flex_rule Vertical main cross size b cs
box_rule s (wrap spacing run_spacing) scroll b cs = wrap_rule spacing run_spacing b cs
box_rule s (table widths) scroll b cs = table_rule widths b cs
box_rule s (stack ax ay fit) scroll b cs = stack_rule ax ay fit b cs
box_rule s (flexible flex fit) scroll b cs = no_box b
box_rule s (positioned left top right bottom width height) scroll b cs = no_box b
box_rule s (opacity alpha) scroll b cs = around_rule s (opacity alpha) b cs
box_rule s clip_rect scroll b cs = around_rule s clip_rect b cs
box_rule s repaint_boundary scroll b cs = around_rule s repaint_boundary b cs
box_rule s merge_semantics scroll b cs = around_rule s merge_semantics b cs
box_rule s intrinsic_width scroll b cs = around_rule s intrinsic_width b cs
box_rule s intrinsic_height scroll b cs = around_rule s intrinsic_height b cs
box_rule s (offstage hidden) scroll b cs = around_rule s (offstage hidden) b cs
box_rule s (ignore_pointer ignoring) scroll b cs = around_rule s (ignore_pointer ignoring) b cs
box_rule s (absorb_pointer absorbing) scroll b cs = around_rule s (absorb_pointer absorbing) b cs
box_rule s (detector behavior tap long vertical horizontal pan) scroll b cs = around_rule s (detector behavior tap long vertical horizontal pan) b cs
box_rule s (semantics label button container) scroll b cs = around_rule s (semantics label button container) b cs
box_rule s (exclude_semantics excluding) scroll b cs = around_rule s (exclude_semantics excluding) b cs
box_rule s (custom_paint delegate) scroll b cs = around_rule s (custom_paint delegate) b cs
box_rule s (custom_layout delegate) scroll b cs = around_rule s (custom_layout delegate) b cs
box_rule s (viewport axis) scroll b cs = viewport_rule axis scroll b cs
box_rule s sliver_to_box scroll b cs = no_box b
box_rule s (sliver_padding left top right bottom) scroll b cs = no_box b
box_rule s (sliver_fixed extent) scroll b cs = no_box b
box_rule s (sliver_lazy extent) scroll b cs = no_box b
box_rule s (keep kept) scroll b cs = no_box b
box_rule s (inherit name value) scroll b cs = no_box b
box_rule s (component place props declaration) scroll b cs = no_box b

-- the rule of each kind for a sliver in a view, where a SliverLazy has so many child widgets; a box passes nothing on
abbrev pub sliver_rule : Look → ℕ → SliverBounds → List Object → Passed
sliver_rule sliver_to_box count b cs = to_box_rule b (only_of cs)
sliver_rule (sliver_padding left top right bottom) count b cs = padding_rule (insets_of left top right bottom) b (only_of cs)
sliver_rule (sliver_fixed extent) count b cs = fixed_rule extent b cs
sliver_rule (sliver_lazy extent) count b cs = lazy_rule extent count b cs
sliver_rule (sized_box width height) count b cs = no_passage
sliver_rule (constrained_box min_width max_width min_height max_height) count b cs = no_passage
sliver_rule (padding left top right bottom) count b cs = no_passage
sliver_rule (align ax ay) count b cs = no_passage
sliver_rule (colored_box color) count b cs = no_passage
sliver_rule (text words color) count b cs = no_passage
sliver_rule (row main cross size) count b cs = no_passage
sliver_rule (column main cross size) count b cs = no_passage
sliver_rule (wrap spacing run_spacing) count b cs = no_passage
sliver_rule (table widths) count b cs = no_passage
sliver_rule (stack ax ay fit) count b cs = no_passage
sliver_rule (flexible flex fit) count b cs = no_passage
sliver_rule (positioned left top right bottom width height) count b cs = no_passage
sliver_rule (opacity alpha) count b cs = no_passage
sliver_rule clip_rect count b cs = no_passage
sliver_rule repaint_boundary count b cs = no_passage
sliver_rule merge_semantics count b cs = no_passage
sliver_rule intrinsic_width count b cs = no_passage
sliver_rule intrinsic_height count b cs = no_passage
sliver_rule (offstage hidden) count b cs = no_passage
sliver_rule (ignore_pointer ignoring) count b cs = no_passage
sliver_rule (absorb_pointer absorbing) count b cs = no_passage
sliver_rule (detector behavior tap long vertical horizontal pan) count b cs = no_passage
sliver_rule (semantics label button container) count b cs = no_passage
sliver_rule (exclude_semantics excluding) count b cs = no_passage
sliver_rule (custom_paint delegate) count b cs = no_passage
sliver_rule (custom_layout delegate) count b cs = no_passage
sliver_rule (viewport axis) count b cs = no_passage
sliver_rule (keep kept) count b cs = no_passage
sliver_rule (inherit name value) count b cs = no_passage
sliver_rule (component place props declaration) count b cs = no_passage

-- the rule of each kind for the extent that it would like; delegates have no part in it
abbrev pub intrinsic_rule : Setting → Look → Axis → Len → List Object → ℕ
intrinsic_rule s (sized_box width height) axis across cs = own_extent (sized_bounds width height) axis across (only_of cs)
intrinsic_rule s (constrained_box min_width max_width min_height max_height) axis across cs =
    own_extent (constrained_bounds min_width max_width min_height max_height) axis across (only_of cs)
intrinsic_rule s (padding left top right bottom) axis across cs = padded_extent (insets_of left top right bottom) axis across (only_of cs)
intrinsic_rule s (align ax ay) axis across cs = child_extent axis across (only_of cs)
intrinsic_rule s (colored_box color) axis across cs = child_extent axis across (only_of cs)
intrinsic_rule s (text words color) axis across cs = text_extent s.cell words axis across
intrinsic_rule s (row main cross size) axis across cs = flex_extent Horizontal axis across cs
intrinsic_rule s (column main cross size) axis across cs = flex_extent Vertical axis across cs
intrinsic_rule s (wrap spacing run_spacing) axis across cs = wrap_extent spacing run_spacing axis across cs
intrinsic_rule s (table widths) axis across cs = table_extent (columns_of widths) axis cs
intrinsic_rule s (stack ax ay fit) axis across cs = stack_extent axis across cs
intrinsic_rule s (flexible flex fit) axis across cs = child_extent axis across (only_of cs)
intrinsic_rule s (positioned left top right bottom width height) axis across cs = child_extent axis across (only_of cs)
intrinsic_rule s (opacity alpha) axis across cs = child_extent axis across (only_of cs)
intrinsic_rule s clip_rect axis across cs = child_extent axis across (only_of cs)
intrinsic_rule s repaint_boundary axis across cs = child_extent axis across (only_of cs)
intrinsic_rule s merge_semantics axis across cs = child_extent axis across (only_of cs)
intrinsic_rule s intrinsic_width axis across cs = child_extent axis across (only_of cs)
intrinsic_rule s intrinsic_height axis across cs = child_extent axis across (only_of cs)
intrinsic_rule s (offstage hidden) axis across cs = hidden_extent hidden axis across (only_of cs)
intrinsic_rule s (ignore_pointer ignoring) axis across cs = child_extent axis across (only_of cs)
intrinsic_rule s (absorb_pointer absorbing) axis across cs = child_extent axis across (only_of cs)
intrinsic_rule s (detector behavior tap long vertical horizontal pan) axis across cs = child_extent axis across (only_of cs)
intrinsic_rule s (semantics label button container) axis across cs = child_extent axis across (only_of cs)
intrinsic_rule s (exclude_semantics excluding) axis across cs = child_extent axis across (only_of cs)
intrinsic_rule s (custom_paint delegate) axis across cs = child_extent axis across (only_of cs)
intrinsic_rule s (custom_layout delegate) axis across cs = child_extent axis across (only_of cs)
intrinsic_rule s (viewport axis) along across cs = 0
intrinsic_rule s sliver_to_box axis across cs = child_extent axis across (only_of cs)
intrinsic_rule s (sliver_padding left top right bottom) axis across cs = child_extent axis across (only_of cs)
intrinsic_rule s (sliver_fixed extent) axis across cs = child_extent axis across (only_of cs)
intrinsic_rule s (sliver_lazy extent) axis across cs = child_extent axis across (only_of cs)
intrinsic_rule s (keep kept) axis across cs = child_extent axis across (only_of cs)
intrinsic_rule s (inherit name value) axis across cs = child_extent axis across (only_of cs)
intrinsic_rule s (component place props declaration) axis across cs = child_extent axis across (only_of cs)

-- the name of a kind's delegate
abbrev pub delegate_of : Look → Option (List ℕ)
delegate_of (custom_paint delegate) = Some delegate
delegate_of (custom_layout delegate) = Some delegate
delegate_of (sized_box width height) = None
delegate_of (constrained_box min_width max_width min_height max_height) = None
delegate_of (padding left top right bottom) = None
delegate_of (align ax ay) = None
delegate_of (colored_box color) = None
delegate_of (text words color) = None
delegate_of (row main cross size) = None
delegate_of (column main cross size) = None
delegate_of (wrap spacing run_spacing) = None
delegate_of (table widths) = None
delegate_of (stack ax ay fit) = None
delegate_of (flexible flex fit) = None
delegate_of (positioned left top right bottom width height) = None
delegate_of (opacity alpha) = None
delegate_of clip_rect = None
delegate_of repaint_boundary = None
delegate_of merge_semantics = None
delegate_of intrinsic_width = None
delegate_of intrinsic_height = None
delegate_of (offstage hidden) = None
delegate_of (ignore_pointer ignoring) = None
delegate_of (absorb_pointer absorbing) = None
delegate_of (detector behavior tap long vertical horizontal pan) = None
delegate_of (semantics label button container) = None
delegate_of (exclude_semantics excluding) = None
delegate_of (viewport axis) = None
delegate_of sliver_to_box = None
delegate_of (sliver_padding left top right bottom) = None
delegate_of (sliver_fixed extent) = None
delegate_of (sliver_lazy extent) = None
delegate_of (keep kept) = None
delegate_of (inherit name value) = None
delegate_of (component place props declaration) = None

-- whether a delegate of that name is plugged
abbrev pub is_plugged : List Plug → Option (List ℕ) → Bool
is_plugged delegates None = false
is_plugged delegates (Some name) = is_some (meaning_of delegates name)

-- the laid node of a box, and of a sliver
abbrev pub laid_box : Setting → ℕ → Look → Bounds → Done → Laid
laid_box s number look b done =
    laid number look
    (record { frame = Boxed b done.size; notes = done.notes; plugged = is_plugged s.delegates (delegate_of look); scrolled = done.scrolled })
    (laids_of done.children)

abbrev pub laid_sliver : Setting → ℕ → Look → SliverBounds → Passed → Laid
laid_sliver s number look b passed =
    laid number look
    (record { frame = Sliver b passed.geometry; notes = no_notes; plugged = is_plugged s.delegates (delegate_of look); scrolled = 0 })
    (laids_of passed.children)

-- a render node as its parent sees it, and those of a list
unfoldable mutual
  pub object : Setting → Render → Object
  object s (render number look link scroll count children) = record {
    parent_data = link;
    in_bounds = λ b. laid_box s number look b (box_rule s look scroll b (objects s children));
    in_view = λ b. laid_sliver s number look b (sliver_rule look count b (objects s children));
    greatest = λ axis across. intrinsic_rule s look axis across (objects s children);
  }

  pub objects : Setting → Renders → List Object
  objects s no_renders = []
  objects s (more_renders r rs) = object s r ∷ objects s rs

-- a tree laid out in a view: the root has exactly its size
abbrev pub lay_view : Setting → Render → Size → Laid
lay_view s root view = (object s root).in_bounds (tight view)
