-- The extent that a box would like along an axis, where it may take so much across it (computeMaxIntrinsicWidth,
-- computeMaxIntrinsicHeight). A child is asked at the same extent across where nothing else is said, and one that is
-- missing counts 0. The words with `liked` say it by what the children would like, as numbers.
use Rattle.std.specs.Prelude.{ℕ, suc, min, Bool, true, false, Option, Some, None, List, [], ◌∷◌, map, sum, if◌then◌else◌}
use Rattle.fx_geom.specs.declared.boxes.Bounds.{Bounds}
use Rattle.fx_geom.specs.declared.lengths.Len.{Len}
use Rattle.fx_geom.specs.declared.lengths.Len.TheVariants.{Finite, Unbounded}
use Rattle.fx_geom.specs.declared.shapes.Axis.{Axis}
use Rattle.fx_geom.specs.declared.shapes.Axis.TheVariants.{Horizontal, Vertical}
use Rattle.fx_geom.specs.declared.shapes.Insets.{Insets}
use Rattle.fx_geom.specs.declared.shapes.Size.{Size}
use Rattle.fx_geom.specs.Along.{least_along, most_along}
use Rattle.fx_geom.specs.Insets.{other_of, along}
use Rattle.fx_geom.specs.Len.{limit_of, clamped, less, length_sum, stopped, total_of}
use Rattle.flex_layout.specs.Flex.{flex_extent_of}
use Rattle.wrap_table.specs.Stretches.{greatest_of, spaced_extent}
use Rattle.wrap_table.specs.Places.{wrap_size_of, table_size_of}
use Rattle.widget_model.specs.Look.{Look, sized_box, constrained_box, padding, align, colored_box, text, row, column, wrap, table, stack, flexible, positioned, opacity, clip_rect, repaint_boundary, merge_semantics, intrinsic_width, intrinsic_height, offstage, ignore_pointer, absorb_pointer, detector, semantics, exclude_semantics, custom_paint, custom_layout, viewport, sliver_to_box, sliver_padding, sliver_fixed, sliver_lazy, keep, inherit, component}
use Rattle.plain_tree.specs.declared.render.ParentData.{ParentData}
use Rattle.layout_form.specs.Object.{Object, datas}
use Rattle.layout_form.specs.FlexRule.{factors_of, is_flexible, is_rigid}
use Rattle.layout_form.specs.StackRule.{is_free}
use Rattle.layout_form.specs.WrapTable.{column_at}

-- that of the child, where there is one
abbrev pub child_extent : Axis → Len → Option Object → ℕ
child_extent axis across None = 0
child_extent axis across (Some child) = child.greatest axis across

-- those of some children
abbrev pub child_extents : Axis → Len → List Object → List ℕ
child_extents axis across cs = map (λ c. c.greatest axis across) cs

-- the extent that the child of an IntrinsicWidth or an IntrinsicHeight would like; nobody else asks for it
abbrev pub liked_by : Look → Bounds → Option Object → ℕ
liked_by (sized_box width height) b child = 0
liked_by (constrained_box min_width max_width min_height max_height) b child = 0
liked_by (padding left top right bottom) b child = 0
liked_by (align ax ay) b child = 0
liked_by (colored_box color) b child = 0
liked_by (text words color) b child = 0
liked_by (row main cross size) b child = 0
liked_by (column main cross size) b child = 0
liked_by (wrap spacing run_spacing) b child = 0
liked_by (table widths) b child = 0
liked_by (stack ax ay fit) b child = 0
liked_by (flexible flex fit) b child = 0
liked_by (positioned left top right bottom width height) b child = 0
liked_by (opacity alpha) b child = 0
liked_by clip_rect b child = 0
liked_by repaint_boundary b child = 0
liked_by merge_semantics b child = 0
liked_by intrinsic_width b child = child_extent Horizontal b.max_h child
liked_by intrinsic_height b child = child_extent Vertical b.max_w child
liked_by (offstage hidden) b child = 0
liked_by (ignore_pointer ignoring) b child = 0
liked_by (absorb_pointer absorbing) b child = 0
liked_by (detector behavior tap long vertical horizontal pan) b child = 0
liked_by (semantics label button container) b child = 0
liked_by (exclude_semantics excluding) b child = 0
liked_by (custom_paint delegate) b child = 0
liked_by (custom_layout delegate) b child = 0
liked_by (viewport axis) b child = 0
liked_by sliver_to_box b child = 0
liked_by (sliver_padding left top right bottom) b child = 0
liked_by (sliver_fixed extent) b child = 0
liked_by (sliver_lazy extent) b child = 0
liked_by (keep kept) b child = 0
liked_by (inherit name value) b child = 0
liked_by (component place props declaration) b child = 0

-- SizedBox, ConstrainedBox: the child's, clamped by the own bounds
abbrev pub own_liked : Bounds → Axis → ℕ → ℕ
own_liked own axis child = clamped (least_along own axis) (most_along own axis) child

abbrev pub own_extent : Bounds → Axis → Len → Option Object → ℕ
own_extent own axis across child = own_liked own axis (child_extent axis across child)

-- Padding: its insets, and the child's at what they leave across
abbrev pub padded_extent : Insets → Axis → Len → Option Object → ℕ
padded_extent i axis across child =
    length_sum (along i axis) (child_extent axis (less across (along i (other_of axis))) child)

-- Offstage: an offstage one takes no room
abbrev pub hidden_extent : Bool → Axis → Len → Option Object → ℕ
hidden_extent true axis across child = 0
hidden_extent false axis across child = child_extent axis across child

-- the extents of those children that pass a test of what they were told
abbrev pub extents_where : (ParentData → Bool) → List ParentData → List ℕ → List ℕ
extents_where test [] extents = []
extents_where test (d ∷ ds) [] = []
extents_where test (d ∷ ds) (e ∷ es) = if test d then e ∷ extents_where test ds es else extents_where test ds es

-- Stack: the greatest of the children that aren't positioned
abbrev pub stack_liked : List ParentData → List ℕ → ℕ
stack_liked ds es = greatest_of (extents_where is_free ds es)

abbrev pub stack_extent : Axis → Len → List Object → ℕ
stack_extent axis across cs = stack_liked (datas cs) (child_extents axis across cs)

-- Row and Column along their main axis: the sum over the children with factor 0, and the greatest extent in which one of
-- the others has its own by its share of all factors
abbrev pub shared_where : ℕ → List ParentData → List ℕ → List ℕ
shared_where total [] extents = []
shared_where total (d ∷ ds) [] = []
shared_where total (d ∷ ds) (e ∷ es) =
    if is_flexible d then flex_extent_of e d.flex total ∷ shared_where total ds es else shared_where total ds es

abbrev pub main_liked : List ParentData → List ℕ → ℕ
main_liked ds es = length_sum (total_of (extents_where is_rigid ds es)) (greatest_of (shared_where (sum (factors_of ds)) ds es))

-- of a Row or a Column with this main axis; across it the greatest of the children's
abbrev pub flex_liked : Axis → Axis → List ParentData → List ℕ → ℕ
flex_liked Horizontal Horizontal ds es = main_liked ds es
flex_liked Horizontal Vertical ds es = greatest_of es
flex_liked Vertical Horizontal ds es = greatest_of es
flex_liked Vertical Vertical ds es = main_liked ds es

-- how much its children may take across: there is no limit along the main axis
abbrev pub flex_across : Axis → Axis → Len → Len
flex_across Horizontal Horizontal across = across
flex_across Horizontal Vertical across = Unbounded
flex_across Vertical Horizontal across = Unbounded
flex_across Vertical Vertical across = across

abbrev pub flex_extent : Axis → Axis → Len → List Object → ℕ
flex_extent line axis across cs = flex_liked line axis (datas cs) (child_extents axis (flex_across line axis across) cs)

-- Wrap: as wide as all children side by side; as high as the runs of the children in a width, each as wide as it would
-- like, at most that width, and as high as it would like then
abbrev pub wrapped_child : Len → Object → Size
wrapped_child across c =
    let width = min (c.greatest Horizontal Unbounded) (limit_of across) in
    record { w = width; h = c.greatest Vertical (Finite width) }

abbrev pub wrap_extent : ℕ → ℕ → Axis → Len → List Object → ℕ
wrap_extent gap run_gap Horizontal across cs = stopped (spaced_extent gap (child_extents Horizontal Unbounded cs))
wrap_extent gap run_gap Vertical across cs = (wrap_size_of (map (wrapped_child across) cs) across gap run_gap).h

-- Table: as wide as its columns; as high as its rows, each as high as its highest child would like to be in its column
abbrev pub cell_heights : List ℕ → ℕ → List Object → List ℕ
cell_heights columns i [] = []
cell_heights columns i (c ∷ cs) = c.greatest Vertical (Finite (column_at columns i)) ∷ cell_heights columns (suc i) cs

abbrev pub table_extent : List ℕ → Axis → List Object → ℕ
table_extent columns Horizontal cs = total_of columns
table_extent columns Vertical cs = (table_size_of columns (cell_heights columns 0 cs)).h
