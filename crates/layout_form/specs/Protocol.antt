-- A layout in two rounds. This is no definition of layout but the shape of programs that lay out each box once: who is
-- asked first, who is asked then, by the first answers, and what is made of all answers. A Viewport asks its slivers twice,
-- first where nothing is seen and then in their views; boxes in them have the same bounds both times, and can be kept from
-- the first answer. What comes of laid children are the rules' own words (`single_done`, `flex_done`, ..), and so are the
-- bounds of an only child (`around`); which of several children are asked when, and the walk of a Viewport by what its slivers
-- gave, stand here beside the rules. That both come to the same is the law `two_rounds_suffice`.
use Rattle.std.specs.Prelude.{◌≡◌, ℕ, suc, pos, Bool, true, if◌then◌else◌, Option, Some, None, List, [], ◌∷◌, map, length}
use Rattle.fx_geom.specs.declared.boxes.Bounds.{Bounds}
use Rattle.fx_geom.specs.declared.lengths.Len.{Len}
use Rattle.fx_geom.specs.declared.lengths.Len.TheVariants.{Finite, Unbounded}
use Rattle.fx_geom.specs.declared.shapes.Axis.{Axis}
use Rattle.fx_geom.specs.declared.shapes.Axis.TheVariants.{Horizontal, Vertical}
use Rattle.fx_geom.specs.declared.shapes.Insets.{Insets}
use Rattle.fx_geom.specs.declared.shapes.Size.{Size}
use Rattle.fx_geom.specs.declared.words.CrossAlign.{CrossAlign}
use Rattle.fx_geom.specs.declared.words.StackFit.{StackFit}
use Rattle.fx_geom.specs.Along.{size_along, offset_along, most_along}
use Rattle.fx_geom.specs.Bounds.{loose, tight}
use Rattle.fx_geom.specs.Insets.{other_of, extent_of}
use Rattle.fx_geom.specs.Len.{total_of}
use Rattle.fx_geom.specs.Size.{no_size}
use Rattle.sliver_layout.specs.declared.protocol.Geometry.{Geometry}
use Rattle.sliver_layout.specs.declared.protocol.SliverBounds.{SliverBounds}
use Rattle.sliver_layout.specs.declared.protocol.Walk.{Walk}
use Rattle.sliver_layout.specs.declared.protocol.Window.{Window}
use Rattle.sliver_layout.specs.Lists.{window_of, list_geometry_of, item_place_of}
use Rattle.sliver_layout.specs.Slivers.{geometry_of, box_geometry_of, padded_of, padding_of, corrected_of, walk_from, view_of, walk_past}
use Rattle.widget_model.specs.Look.{Look, sized_box, constrained_box, padding, align, colored_box, text, row, column, wrap, table, stack, flexible, positioned, opacity, clip_rect, repaint_boundary, merge_semantics, intrinsic_width, intrinsic_height, offstage, ignore_pointer, absorb_pointer, detector, semantics, exclude_semantics, custom_paint, custom_layout, viewport, sliver_to_box, sliver_padding, sliver_fixed, sliver_lazy, keep, inherit, component}
use Rattle.plain_tree.specs.declared.render.ParentData.{ParentData}
use Rattle.plain_tree.specs.Laid.{Laid, laid, Laids, no_laids, more_laids, Stood}
use Rattle.layout_form.specs.declared.asks.Ask.{Ask}
use Rattle.layout_form.specs.declared.asks.Ask.TheVariants.{AsBox, AsSliver}
use Rattle.layout_form.specs.Object.{Setting, Object, Done, Passed, no_geometry, frame_geometry, no_passage, sizes_in, geometry_in, extents_of, placed, datas, only_of}
use Rattle.layout_form.specs.Single.{Around, single_done, insets_of, around}
use Rattle.layout_form.specs.TextRule.{text_rule}
use Rattle.layout_form.specs.FlexRule.{is_rigid, unshared, flex_bounds, asks_unbounded, flex_done}
use Rattle.layout_form.specs.StackRule.{position_of, is_free, free_bounds, stack_size, stack_child, stack_done}
use Rattle.layout_form.specs.WrapTable.{columns_of, column_at, cell_bounds, wrap_done, table_done}
use Rattle.layout_form.specs.SliverRule.{view_size, view_done, unseen, box_bounds, to_box_done, padding_done, is_among, counted}
use Rattle.layout_form.specs.Intrinsic.{liked_by}
use Rattle.layout_form.specs.Layout.{no_box}

-- ---- rounds

abbrev pub answer : Object → Ask → Laid
answer c (AsBox b) = c.in_bounds b
answer c (AsSliver b) = c.in_view b

-- a child's answer: that to what it is asked, else what it answered before
abbrev pub answered : Option Ask → Option Laid → Object → Option Laid
answered None before c = before
answered (Some ask) before c = Some (answer c ask)

-- the answers after all are asked, of whom those that aren't asked, and all past the end of the list, keep what they
-- answered before
abbrev pub round : List (Option Ask) → List (Option Laid) → List Object → List (Option Laid)
round [] slots cs = slots
round (ask ∷ asks) [] cs = []
round (ask ∷ asks) (slot ∷ slots) [] = []
round (ask ∷ asks) (slot ∷ slots) (c ∷ cs) = answered ask slot c ∷ round asks slots cs

-- nobody has answered yet
abbrev pub nothing : List Object → List (Option Laid)
nothing cs = map (λ c. None) cs

abbrev pub present : List (Option Laid) → List Laid
present [] = []
present (None ∷ slots) = present slots
present (Some l ∷ slots) = l ∷ present slots

-- ---- who is asked

abbrev pub nobody : List (Option Ask)
nobody = []

abbrev pub first_alone : Ask → List (Option Ask)
first_alone ask = Some ask ∷ []

-- those that pass a test of what they were told
abbrev pub ask_if : Bool → Ask → Option Ask
ask_if t ask = if t then Some ask else None

abbrev pub asks_where : (ParentData → Bool) → Ask → List ParentData → List (Option Ask)
asks_where test ask ds = map (λ d. ask_if (test d) ask) ds

-- of a Row or Column those with factor 0, and all of them where the main axis is unbounded
abbrev pub goes_first : Len → ParentData → Bool
goes_first (Finite most) d = is_rigid d
goes_first Unbounded d = true

abbrev pub flex_first : Axis → CrossAlign → Bounds → List ParentData → List (Option Ask)
flex_first axis cross b ds = asks_where (goes_first (most_along b axis)) (AsBox (unshared axis cross b)) ds

abbrev pub everybody : Ask → List ParentData → List (Option Ask)
everybody ask ds = map (λ d. Some ask) ds

-- the cells of a table, the first of them being child i
abbrev pub cells_first : List ℕ → ℕ → List ParentData → List (Option Ask)
cells_first columns i [] = []
cells_first columns i (d ∷ ds) = Some (AsBox (cell_bounds (column_at columns i))) ∷ cells_first columns (suc i) ds

-- the children of a list with these indices that are seen
abbrev pub items_first : SliverBounds → ℕ → Window → List ℕ → List (Option Ask)
items_first b extent w is = map (λ i. ask_if (is_among w i) (AsBox (tight (size_along b.axis extent b.cross)))) is

-- those that haven't answered, each in its bounds
abbrev pub other : Bounds → Option Laid → Option Ask
other b None = Some (AsBox b)
other b (Some l) = None

abbrev pub others : List Bounds → List (Option Laid) → List (Option Ask)
others [] slots = []
others (b ∷ bs) [] = []
others (b ∷ bs) (slot ∷ slots) = other b slot ∷ others bs slots

-- ---- a sliver that was measured in one view, in another one with the same axis and cross extent

abbrev pub scroll_if : Laids → ℕ → Option ℕ
scroll_if no_laids scroll = None
scroll_if (more_laids at l ls) scroll = Some scroll

-- what it gives there, by its kind, what it gave, its child, and what the child gives
abbrev pub measured_by : Look → Geometry → Laids → (SliverBounds → Option Geometry) → SliverBounds → Geometry
measured_by sliver_to_box given children child b = box_geometry_of b (scroll_if children given.scroll)
measured_by (sliver_padding left top right bottom) given children child b =
    let i = insets_of left top right bottom in padding_of b i (child (padded_of b i))
measured_by (sliver_fixed extent) given children child b = geometry_of b given.scroll
measured_by (sliver_lazy extent) given children child b = geometry_of b given.scroll
measured_by (sized_box width height) given children child b = no_geometry
measured_by (constrained_box min_width max_width min_height max_height) given children child b = no_geometry
measured_by (padding left top right bottom) given children child b = no_geometry
measured_by (align ax ay) given children child b = no_geometry
measured_by (colored_box color) given children child b = no_geometry
measured_by (text words color) given children child b = no_geometry
measured_by (row main cross size) given children child b = no_geometry
measured_by (column main cross size) given children child b = no_geometry
measured_by (wrap spacing run_spacing) given children child b = no_geometry
measured_by (table widths) given children child b = no_geometry
measured_by (stack ax ay fit) given children child b = no_geometry
measured_by (flexible flex fit) given children child b = no_geometry
measured_by (positioned left top right bottom width height) given children child b = no_geometry
measured_by (opacity alpha) given children child b = no_geometry
measured_by clip_rect given children child b = no_geometry
measured_by repaint_boundary given children child b = no_geometry
measured_by merge_semantics given children child b = no_geometry
measured_by intrinsic_width given children child b = no_geometry
measured_by intrinsic_height given children child b = no_geometry
measured_by (offstage hidden) given children child b = no_geometry
measured_by (ignore_pointer ignoring) given children child b = no_geometry
measured_by (absorb_pointer absorbing) given children child b = no_geometry
measured_by (detector behavior tap long vertical horizontal pan) given children child b = no_geometry
measured_by (semantics label button container) given children child b = no_geometry
measured_by (exclude_semantics excluding) given children child b = no_geometry
measured_by (custom_paint delegate) given children child b = no_geometry
measured_by (custom_layout delegate) given children child b = no_geometry
measured_by (viewport axis) given children child b = no_geometry
measured_by (keep kept) given children child b = no_geometry
measured_by (inherit name value) given children child b = no_geometry
measured_by (component place props declaration) given children child b = no_geometry

abbrev mutual
  pub measured : Laid → SliverBounds → Geometry
  measured (laid number look facts children) b = measured_by look (frame_geometry facts.frame) children (measured_first children) b

  pub measured_first : Laids → SliverBounds → Option Geometry
  measured_first no_laids b = None
  measured_first (more_laids at l ls) b = Some (measured l b)

-- the views of the slivers of a Viewport, by what they gave where nothing is seen
abbrev pub walk_views : Axis → ℕ → ℕ → Walk → List (Option Laid) → List (Option Ask)
walk_views axis main cross walk [] = []
walk_views axis main cross walk (None ∷ slots) = None ∷ walk_views axis main cross walk slots
walk_views axis main cross walk (Some l ∷ slots) =
    let v = view_of axis main cross walk in
    Some (AsSliver v) ∷ walk_views axis main cross (walk_past walk (measured l v)) slots

-- where a Viewport stands scrolled, by the same
abbrev pub start_of : Axis → ℕ → Bounds → List (Option Laid) → ℕ
start_of axis offset b slots =
    corrected_of offset (total_of (map (λ l. (geometry_in l).scroll) (present slots))) (extent_of (view_size b) axis)

-- ---- the first round

-- a kind with at most one child asks it in the bounds that it is to get
abbrev pub asks_child : Setting → Look → Bounds → ℕ → List (Option Ask)
asks_child s look b liked = first_alone (AsBox (around s look b liked).inner)

-- a box asks by what its children were told, and by what the child would like
abbrev pub box_first : Setting → Look → Bounds → ℕ → List ParentData → List (Option Ask)
box_first s (sized_box width height) b liked ds = asks_child s (sized_box width height) b liked
box_first s (constrained_box min_width max_width min_height max_height) b liked ds = asks_child s (constrained_box min_width max_width min_height max_height) b liked
box_first s (padding left top right bottom) b liked ds = asks_child s (padding left top right bottom) b liked
box_first s (align ax ay) b liked ds = asks_child s (align ax ay) b liked
box_first s (colored_box color) b liked ds = asks_child s (colored_box color) b liked
box_first s (text words color) b liked ds = nobody
box_first s (row main cross size) b liked ds = flex_first Horizontal cross b ds
box_first s (column main cross size) b liked ds = flex_first Vertical cross b ds
box_first s (wrap spacing run_spacing) b liked ds = everybody (AsBox (loose b.max_w Unbounded)) ds
box_first s (table widths) b liked ds = cells_first (columns_of widths) 0 ds
box_first s (stack ax ay fit) b liked ds = asks_where is_free (AsBox (free_bounds fit b)) ds
box_first s (flexible flex fit) b liked ds = nobody
box_first s (positioned left top right bottom width height) b liked ds = nobody
box_first s (opacity alpha) b liked ds = asks_child s (opacity alpha) b liked
box_first s clip_rect b liked ds = asks_child s clip_rect b liked
box_first s repaint_boundary b liked ds = asks_child s repaint_boundary b liked
box_first s merge_semantics b liked ds = asks_child s merge_semantics b liked
box_first s intrinsic_width b liked ds = asks_child s intrinsic_width b liked
box_first s intrinsic_height b liked ds = asks_child s intrinsic_height b liked
box_first s (offstage hidden) b liked ds = asks_child s (offstage hidden) b liked
box_first s (ignore_pointer ignoring) b liked ds = asks_child s (ignore_pointer ignoring) b liked
box_first s (absorb_pointer absorbing) b liked ds = asks_child s (absorb_pointer absorbing) b liked
box_first s (detector behavior tap long vertical horizontal pan) b liked ds = asks_child s (detector behavior tap long vertical horizontal pan) b liked
box_first s (semantics label button container) b liked ds = asks_child s (semantics label button container) b liked
box_first s (exclude_semantics excluding) b liked ds = asks_child s (exclude_semantics excluding) b liked
box_first s (custom_paint delegate) b liked ds = asks_child s (custom_paint delegate) b liked
box_first s (custom_layout delegate) b liked ds = asks_child s (custom_layout delegate) b liked
box_first s (viewport axis) b liked ds = everybody (AsSliver (unseen axis (extent_of (view_size b) (other_of axis)))) ds
box_first s sliver_to_box b liked ds = nobody
box_first s (sliver_padding left top right bottom) b liked ds = nobody
box_first s (sliver_fixed extent) b liked ds = nobody
box_first s (sliver_lazy extent) b liked ds = nobody
box_first s (keep kept) b liked ds = nobody
box_first s (inherit name value) b liked ds = nobody
box_first s (component place props declaration) b liked ds = nobody

-- a sliver asks by what its children were told, and by what was kept of an answer in another view
abbrev pub sliver_first : Look → ℕ → SliverBounds → List (Option Laid) → List ParentData → List (Option Ask)
sliver_first sliver_to_box count b before ds = others (box_bounds b ∷ []) before
sliver_first (sliver_padding left top right bottom) count b before ds = first_alone (AsSliver (padded_of b (insets_of left top right bottom)))
sliver_first (sliver_fixed extent) count b before ds = items_first b extent (window_of b extent (length ds)) (counted 0 ds)
sliver_first (sliver_lazy extent) count b before ds = items_first b extent (window_of b extent count) (map (λ d. d.index) ds)
sliver_first (sized_box width height) count b before ds = nobody
sliver_first (constrained_box min_width max_width min_height max_height) count b before ds = nobody
sliver_first (padding left top right bottom) count b before ds = nobody
sliver_first (align ax ay) count b before ds = nobody
sliver_first (colored_box color) count b before ds = nobody
sliver_first (text words color) count b before ds = nobody
sliver_first (row main cross size) count b before ds = nobody
sliver_first (column main cross size) count b before ds = nobody
sliver_first (wrap spacing run_spacing) count b before ds = nobody
sliver_first (table widths) count b before ds = nobody
sliver_first (stack ax ay fit) count b before ds = nobody
sliver_first (flexible flex fit) count b before ds = nobody
sliver_first (positioned left top right bottom width height) count b before ds = nobody
sliver_first (opacity alpha) count b before ds = nobody
sliver_first clip_rect count b before ds = nobody
sliver_first repaint_boundary count b before ds = nobody
sliver_first merge_semantics count b before ds = nobody
sliver_first intrinsic_width count b before ds = nobody
sliver_first intrinsic_height count b before ds = nobody
sliver_first (offstage hidden) count b before ds = nobody
sliver_first (ignore_pointer ignoring) count b before ds = nobody
sliver_first (absorb_pointer absorbing) count b before ds = nobody
sliver_first (detector behavior tap long vertical horizontal pan) count b before ds = nobody
sliver_first (semantics label button container) count b before ds = nobody
sliver_first (exclude_semantics excluding) count b before ds = nobody
sliver_first (custom_paint delegate) count b before ds = nobody
sliver_first (custom_layout delegate) count b before ds = nobody
sliver_first (viewport axis) count b before ds = nobody
sliver_first (keep kept) count b before ds = nobody
sliver_first (inherit name value) count b before ds = nobody
sliver_first (component place props declaration) count b before ds = nobody

-- ---- the second round, by the first answers

abbrev pub flex_rest : Axis → CrossAlign → Bounds → List ParentData → List (Option Laid) → List (Option Ask)
flex_rest axis cross b ds slots =
    others (flex_bounds axis cross b (most_along b axis) (total_of (extents_of axis (sizes_in (present slots)))) ds) slots

-- the size of a stack, by its children that aren't positioned
abbrev pub stack_from : Bounds → List (Option Laid) → Size
stack_from b slots = stack_size b (sizes_in (present slots))

abbrev pub stack_rest : StackFit → Bounds → Size → List ParentData → List (Option Laid) → List (Option Ask)
stack_rest fit b size ds slots = others (map (λ d. stack_child (free_bounds fit b) size (position_of d.placed)) ds) slots

abbrev pub view_rest : Axis → ℕ → Bounds → List (Option Laid) → List (Option Ask)
view_rest axis start b slots =
    walk_views axis (extent_of (view_size b) axis) (extent_of (view_size b) (other_of axis)) (walk_from start) slots

-- what the first answers tell: the size of a Stack, and where a Viewport stands scrolled
pub record Found : Type 0 where
  pub size : Size
  pub start : ℕ

abbrev pub nothing_found : Found
nothing_found = record { size = no_size; start = 0 }

abbrev pub found_by : Look → ℕ → Bounds → List (Option Laid) → Found
found_by (sized_box width height) scroll b slots = nothing_found
found_by (constrained_box min_width max_width min_height max_height) scroll b slots = nothing_found
found_by (padding left top right bottom) scroll b slots = nothing_found
found_by (align ax ay) scroll b slots = nothing_found
found_by (colored_box color) scroll b slots = nothing_found
found_by (text words color) scroll b slots = nothing_found
found_by (row main cross size) scroll b slots = nothing_found
found_by (column main cross size) scroll b slots = nothing_found
found_by (wrap spacing run_spacing) scroll b slots = nothing_found
found_by (table widths) scroll b slots = nothing_found
found_by (stack ax ay fit) scroll b slots = record { size = stack_from b slots; start = 0 }
found_by (flexible flex fit) scroll b slots = nothing_found
found_by (positioned left top right bottom width height) scroll b slots = nothing_found
found_by (opacity alpha) scroll b slots = nothing_found
found_by clip_rect scroll b slots = nothing_found
found_by repaint_boundary scroll b slots = nothing_found
found_by merge_semantics scroll b slots = nothing_found
found_by intrinsic_width scroll b slots = nothing_found
found_by intrinsic_height scroll b slots = nothing_found
found_by (offstage hidden) scroll b slots = nothing_found
found_by (ignore_pointer ignoring) scroll b slots = nothing_found
found_by (absorb_pointer absorbing) scroll b slots = nothing_found
found_by (detector behavior tap long vertical horizontal pan) scroll b slots = nothing_found
found_by (semantics label button container) scroll b slots = nothing_found
found_by (exclude_semantics excluding) scroll b slots = nothing_found
found_by (custom_paint delegate) scroll b slots = nothing_found
found_by (custom_layout delegate) scroll b slots = nothing_found
found_by (viewport axis) scroll b slots = record { size = no_size; start = start_of axis scroll b slots }
found_by sliver_to_box scroll b slots = nothing_found
found_by (sliver_padding left top right bottom) scroll b slots = nothing_found
found_by (sliver_fixed extent) scroll b slots = nothing_found
found_by (sliver_lazy extent) scroll b slots = nothing_found
found_by (keep kept) scroll b slots = nothing_found
found_by (inherit name value) scroll b slots = nothing_found
found_by (component place props declaration) scroll b slots = nothing_found

abbrev pub box_rest : Look → Bounds → Found → List ParentData → List (Option Laid) → List (Option Ask)
box_rest (row main cross size) b found ds slots = flex_rest Horizontal cross b ds slots
box_rest (column main cross size) b found ds slots = flex_rest Vertical cross b ds slots
box_rest (stack ax ay fit) b found ds slots = stack_rest fit b found.size ds slots
box_rest (viewport axis) b found ds slots = view_rest axis found.start b slots
box_rest (sized_box width height) b found ds slots = nobody
box_rest (constrained_box min_width max_width min_height max_height) b found ds slots = nobody
box_rest (padding left top right bottom) b found ds slots = nobody
box_rest (align ax ay) b found ds slots = nobody
box_rest (colored_box color) b found ds slots = nobody
box_rest (text words color) b found ds slots = nobody
box_rest (wrap spacing run_spacing) b found ds slots = nobody
box_rest (table widths) b found ds slots = nobody
box_rest (flexible flex fit) b found ds slots = nobody
box_rest (positioned left top right bottom width height) b found ds slots = nobody
box_rest (opacity alpha) b found ds slots = nobody
box_rest clip_rect b found ds slots = nobody
box_rest repaint_boundary b found ds slots = nobody
box_rest merge_semantics b found ds slots = nobody
box_rest intrinsic_width b found ds slots = nobody
box_rest intrinsic_height b found ds slots = nobody
box_rest (offstage hidden) b found ds slots = nobody
box_rest (ignore_pointer ignoring) b found ds slots = nobody
box_rest (absorb_pointer absorbing) b found ds slots = nobody
box_rest (detector behavior tap long vertical horizontal pan) b found ds slots = nobody
box_rest (semantics label button container) b found ds slots = nobody
box_rest (exclude_semantics excluding) b found ds slots = nobody
box_rest (custom_paint delegate) b found ds slots = nobody
box_rest (custom_layout delegate) b found ds slots = nobody
box_rest sliver_to_box b found ds slots = nobody
box_rest (sliver_padding left top right bottom) b found ds slots = nobody
box_rest (sliver_fixed extent) b found ds slots = nobody
box_rest (sliver_lazy extent) b found ds slots = nobody
box_rest (keep kept) b found ds slots = nobody
box_rest (inherit name value) b found ds slots = nobody
box_rest (component place props declaration) b found ds slots = nobody

-- ---- what is made of the answers

abbrev pub single_made : Around → List Laid → Done
single_made a [] = single_done a None
single_made a (l ∷ ls) = single_done a (Some l)

-- the slivers at their places
abbrev pub walk_placed : Axis → Walk → List Laid → List Stood
walk_placed axis walk [] = []
walk_placed axis walk (l ∷ ls) = placed (offset_along axis (pos walk.at) (pos 0)) l ∷ walk_placed axis (walk_past walk (geometry_in l)) ls

abbrev pub view_made : Axis → Bounds → ℕ → List Laid → Done
view_made axis b start ls = view_done b start (walk_placed axis (walk_from start) ls)

abbrev pub to_box_made : SliverBounds → List Laid → Passed
to_box_made b [] = to_box_done b None
to_box_made b (l ∷ ls) = to_box_done b (Some l)

abbrev pub padding_made : Insets → SliverBounds → List Laid → Passed
padding_made i b [] = padding_done i b None
padding_made i b (l ∷ ls) = padding_done i b (Some l)

-- the items that answered, each at the place of its index
abbrev pub items_made : SliverBounds → ℕ → List ℕ → List (Option Laid) → List Stood
items_made b extent [] slots = []
items_made b extent (i ∷ is) [] = []
items_made b extent (i ∷ is) (None ∷ slots) = items_made b extent is slots
items_made b extent (i ∷ is) (Some l ∷ slots) =
    placed (offset_along b.axis (item_place_of b extent i) (pos 0)) l ∷ items_made b extent is slots

-- what a rule makes of what the children were told, of the first answers, and of the laid children; what the child would like
-- has no part in it any more
abbrev pub box_made : Setting → Look → Bounds → Found → List ParentData → List Laid → Done
box_made s (sized_box width height) b found ds ls = single_made (around s (sized_box width height) b 0) ls
box_made s (constrained_box min_width max_width min_height max_height) b found ds ls = single_made (around s (constrained_box min_width max_width min_height max_height) b 0) ls
box_made s (padding left top right bottom) b found ds ls = single_made (around s (padding left top right bottom) b 0) ls
box_made s (align ax ay) b found ds ls = single_made (around s (align ax ay) b 0) ls
box_made s (colored_box color) b found ds ls = single_made (around s (colored_box color) b 0) ls
box_made s (text words color) b found ds ls = text_rule s.cell words b
box_made s (row main cross size) b found ds ls = flex_done Horizontal main cross size b (asks_unbounded (most_along b Horizontal) ds) ls
box_made s (column main cross size) b found ds ls = flex_done Vertical main cross size b (asks_unbounded (most_along b Vertical) ds) ls
box_made s (wrap spacing run_spacing) b found ds ls = wrap_done spacing run_spacing b ls
box_made s (table widths) b found ds ls = table_done (columns_of widths) b ls
box_made s (stack ax ay fit) b found ds ls = stack_done ax ay found.size ds ls
box_made s (flexible flex fit) b found ds ls = no_box b
box_made s (positioned left top right bottom width height) b found ds ls = no_box b
box_made s (opacity alpha) b found ds ls = single_made (around s (opacity alpha) b 0) ls
box_made s clip_rect b found ds ls = single_made (around s clip_rect b 0) ls
box_made s repaint_boundary b found ds ls = single_made (around s repaint_boundary b 0) ls
box_made s merge_semantics b found ds ls = single_made (around s merge_semantics b 0) ls
box_made s intrinsic_width b found ds ls = single_made (around s intrinsic_width b 0) ls
box_made s intrinsic_height b found ds ls = single_made (around s intrinsic_height b 0) ls
box_made s (offstage hidden) b found ds ls = single_made (around s (offstage hidden) b 0) ls
box_made s (ignore_pointer ignoring) b found ds ls = single_made (around s (ignore_pointer ignoring) b 0) ls
box_made s (absorb_pointer absorbing) b found ds ls = single_made (around s (absorb_pointer absorbing) b 0) ls
box_made s (detector behavior tap long vertical horizontal pan) b found ds ls = single_made (around s (detector behavior tap long vertical horizontal pan) b 0) ls
box_made s (semantics label button container) b found ds ls = single_made (around s (semantics label button container) b 0) ls
box_made s (exclude_semantics excluding) b found ds ls = single_made (around s (exclude_semantics excluding) b 0) ls
box_made s (custom_paint delegate) b found ds ls = single_made (around s (custom_paint delegate) b 0) ls
box_made s (custom_layout delegate) b found ds ls = single_made (around s (custom_layout delegate) b 0) ls
box_made s (viewport axis) b found ds ls = view_made axis b found.start ls
box_made s sliver_to_box b found ds ls = no_box b
box_made s (sliver_padding left top right bottom) b found ds ls = no_box b
box_made s (sliver_fixed extent) b found ds ls = no_box b
box_made s (sliver_lazy extent) b found ds ls = no_box b
box_made s (keep kept) b found ds ls = no_box b
box_made s (inherit name value) b found ds ls = no_box b
box_made s (component place props declaration) b found ds ls = no_box b

abbrev pub list_made : ℕ → ℕ → SliverBounds → List ℕ → List (Option Laid) → Passed
list_made extent count b indices slots = record { geometry = list_geometry_of b extent count; children = items_made b extent indices slots }

abbrev pub sliver_made : Look → ℕ → SliverBounds → List ParentData → List (Option Laid) → Passed
sliver_made sliver_to_box count b ds slots = to_box_made b (present slots)
sliver_made (sliver_padding left top right bottom) count b ds slots = padding_made (insets_of left top right bottom) b (present slots)
sliver_made (sliver_fixed extent) count b ds slots = list_made extent (length ds) b (counted 0 ds) slots
sliver_made (sliver_lazy extent) count b ds slots = list_made extent count b (map (λ d. d.index) ds) slots
sliver_made (sized_box width height) count b ds slots = no_passage
sliver_made (constrained_box min_width max_width min_height max_height) count b ds slots = no_passage
sliver_made (padding left top right bottom) count b ds slots = no_passage
sliver_made (align ax ay) count b ds slots = no_passage
sliver_made (colored_box color) count b ds slots = no_passage
sliver_made (text words color) count b ds slots = no_passage
sliver_made (row main cross size) count b ds slots = no_passage
sliver_made (column main cross size) count b ds slots = no_passage
sliver_made (wrap spacing run_spacing) count b ds slots = no_passage
sliver_made (table widths) count b ds slots = no_passage
sliver_made (stack ax ay fit) count b ds slots = no_passage
sliver_made (flexible flex fit) count b ds slots = no_passage
sliver_made (positioned left top right bottom width height) count b ds slots = no_passage
sliver_made (opacity alpha) count b ds slots = no_passage
sliver_made clip_rect count b ds slots = no_passage
sliver_made repaint_boundary count b ds slots = no_passage
sliver_made merge_semantics count b ds slots = no_passage
sliver_made intrinsic_width count b ds slots = no_passage
sliver_made intrinsic_height count b ds slots = no_passage
sliver_made (offstage hidden) count b ds slots = no_passage
sliver_made (ignore_pointer ignoring) count b ds slots = no_passage
sliver_made (absorb_pointer absorbing) count b ds slots = no_passage
sliver_made (detector behavior tap long vertical horizontal pan) count b ds slots = no_passage
sliver_made (semantics label button container) count b ds slots = no_passage
sliver_made (exclude_semantics excluding) count b ds slots = no_passage
sliver_made (custom_paint delegate) count b ds slots = no_passage
sliver_made (custom_layout delegate) count b ds slots = no_passage
sliver_made (viewport axis) count b ds slots = no_passage
sliver_made (keep kept) count b ds slots = no_passage
sliver_made (inherit name value) count b ds slots = no_passage
sliver_made (component place props declaration) count b ds slots = no_passage

-- ---- what is kept of a sliver that was laid out where nothing was seen, when it is laid out in a view

-- its first child
abbrev pub first_below : Option Laid → Option Laid
first_below None = None
first_below (Some (laid number look facts no_laids)) = None
first_below (Some (laid number look facts (more_laids at l ls))) = Some l

-- a SliverToBox and a SliverPadding keep it
abbrev pub kept_by : Look → Option Laid → Option Laid
kept_by (sized_box width height) before = None
kept_by (constrained_box min_width max_width min_height max_height) before = None
kept_by (padding left top right bottom) before = None
kept_by (align ax ay) before = None
kept_by (colored_box color) before = None
kept_by (text words color) before = None
kept_by (row main cross size) before = None
kept_by (column main cross size) before = None
kept_by (wrap spacing run_spacing) before = None
kept_by (table widths) before = None
kept_by (stack ax ay fit) before = None
kept_by (flexible flex fit) before = None
kept_by (positioned left top right bottom width height) before = None
kept_by (opacity alpha) before = None
kept_by clip_rect before = None
kept_by repaint_boundary before = None
kept_by merge_semantics before = None
kept_by intrinsic_width before = None
kept_by intrinsic_height before = None
kept_by (offstage hidden) before = None
kept_by (ignore_pointer ignoring) before = None
kept_by (absorb_pointer absorbing) before = None
kept_by (detector behavior tap long vertical horizontal pan) before = None
kept_by (semantics label button container) before = None
kept_by (exclude_semantics excluding) before = None
kept_by (custom_paint delegate) before = None
kept_by (custom_layout delegate) before = None
kept_by (viewport axis) before = None
kept_by sliver_to_box before = first_below before
kept_by (sliver_padding left top right bottom) before = first_below before
kept_by (sliver_fixed extent) before = None
kept_by (sliver_lazy extent) before = None
kept_by (keep kept) before = None
kept_by (inherit name value) before = None
kept_by (component place props declaration) before = None

-- it is what the sliver gives where nothing is seen
abbrev pub IsKept : SliverBounds → Option Laid → Object → Type 0
IsKept b None c = Unit {0}
IsKept b (Some l) c = l ≡ c.in_view (unseen b.axis b.cross)

-- ---- both rounds

-- a box: the second round asks whom the first answers leave
abbrev pub asked_box : Setting → Look → ℕ → Bounds → List Object → Done
asked_box s look scroll b cs =
    let first = round (box_first s look b (liked_by look b (only_of cs)) (datas cs)) (nothing cs) cs in
    let found = found_by look scroll b first in
    let second = round (box_rest look b found (datas cs) first) first cs in
    box_made s look b found (datas cs) (present second)

-- a sliver needs one round, and its first child perhaps none
abbrev pub first_kept : Option Laid → List Object → List (Option Laid)
first_kept kept [] = []
first_kept kept (c ∷ cs) = kept ∷ nothing cs

abbrev pub asked_sliver : Look → ℕ → SliverBounds → Option Laid → List Object → Passed
asked_sliver look count b kept cs =
    let before = first_kept (kept_by look kept) cs in
    sliver_made look count b (datas cs) (round (sliver_first look count b before (datas cs)) before cs)
