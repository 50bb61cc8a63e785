-- The rules by frames alone: what is made of how the children answered, without the laid nodes. Those stand at the places that
-- a rule makes, and that this comes to the rules is the law `rules_see_frames`. So a rule can be followed wherever each child's
-- bounds with its size, or its view with its geometry, are at hand.
use Rattle.std.specs.Prelude.{ℕ, ◌-◌, pos, Bool, Option, Some, None, option_map, List, [], ◌∷◌, map, length}
use Rattle.fx_geom.specs.declared.boxes.Bounds.{Bounds}
use Rattle.fx_geom.specs.declared.shapes.Axis.{Axis}
use Rattle.fx_geom.specs.declared.shapes.Axis.TheVariants.{Horizontal, Vertical}
use Rattle.fx_geom.specs.declared.shapes.Insets.{Insets}
use Rattle.fx_geom.specs.declared.shapes.Offset.{Offset}
use Rattle.fx_geom.specs.declared.shapes.Size.{Size}
use Rattle.fx_geom.specs.declared.words.CrossAlign.{CrossAlign}
use Rattle.fx_geom.specs.declared.words.MainAlign.{MainAlign}
use Rattle.fx_geom.specs.declared.words.StackFit.{StackFit}
use Rattle.fx_geom.specs.Along.{most_along, offset_along}
use Rattle.fx_geom.specs.Bounds.{smallest, constrain}
use Rattle.fx_geom.specs.Insets.{other_of, extent_of}
use Rattle.fx_geom.specs.Len.{total_of}
use Rattle.fx_geom.specs.Size.{no_size}
use Rattle.sliver_layout.specs.declared.protocol.Geometry.{Geometry}
use Rattle.sliver_layout.specs.declared.protocol.SliverBounds.{SliverBounds}
use Rattle.sliver_layout.specs.declared.protocol.Walk.{Walk}
use Rattle.sliver_layout.specs.Lists.{window_of, list_geometry_of, item_place_of}
use Rattle.sliver_layout.specs.Slivers.{geometry_of, box_geometry_of, box_place_of, padded_of, padding_of, corrected_of, walk_from, view_of, walk_past}
use Rattle.wrap_table.specs.Places.{wrap_places_of, wrap_size_of, table_places_of, table_size_of}
use Rattle.widget_model.specs.declared.words.MainSize.{MainSize}
use Rattle.widget_model.specs.Look.{Look, sized_box, constrained_box, padding, align, colored_box, text, row, column, wrap, table, stack, flexible, positioned, opacity, clip_rect, repaint_boundary, merge_semantics, intrinsic_width, intrinsic_height, offstage, ignore_pointer, absorb_pointer, detector, semantics, exclude_semantics, custom_paint, custom_layout, viewport, sliver_to_box, sliver_padding, sliver_fixed, sliver_lazy, keep, inherit, component}
use Rattle.plain_tree.specs.declared.laid.Frame.{Frame}
use Rattle.plain_tree.specs.declared.laid.Notes.{Notes}
use Rattle.plain_tree.specs.declared.render.ParentData.{ParentData}
use Rattle.plain_tree.specs.Laid.{Laid}
use Rattle.plain_tree.specs.Shown.{box_size}
use Rattle.layout_form.specs.declared.asks.Ask.{Ask}
use Rattle.layout_form.specs.declared.asks.Ask.TheVariants.{AsBox, AsSliver}
use Rattle.layout_form.specs.Object.{Setting, Done, Passed, no_notes, no_geometry, frame_geometry, facts_of, extents_of, placed_at}
use Rattle.layout_form.specs.Single.{Around, insets_of, around}
use Rattle.layout_form.specs.TextRule.{text_size}
use Rattle.layout_form.specs.FlexRule.{flex_bounds, asks_unbounded, flex_size, flex_places}
use Rattle.layout_form.specs.StackRule.{position_of, free_bounds, stack_size, stack_child, stack_offsets}
use Rattle.layout_form.specs.WrapTable.{heights_of, columns_of}
use Rattle.layout_form.specs.SliverRule.{view_size, is_endless, box_bounds, padded_place, counted}
use Rattle.layout_form.specs.Protocol.{nobody, first_alone, items_first, Found, nothing_found}

-- ---- frames

-- how a node was laid out
abbrev pub frame_in : Laid → Frame
frame_in l = (facts_of l).frame

abbrev pub frames_in : List (Option Laid) → List (Option Frame)
frames_in slots = map (λ slot. option_map frame_in slot) slots

-- those of the children that have answered
abbrev pub frames_given : List (Option Frame) → List Frame
frames_given [] = []
frames_given (None ∷ fs) = frames_given fs
frames_given (Some f ∷ fs) = f ∷ frames_given fs

abbrev pub sizes_by : List Frame → List Size
sizes_by fs = map box_size fs

abbrev pub geometries_by : List Frame → List Geometry
geometries_by fs = map frame_geometry fs

-- how far the slivers that have answered can be scrolled through
abbrev pub scrolls_by : List (Option Frame) → List ℕ
scrolls_by fs = map (λ f. (frame_geometry f).scroll) (frames_given fs)

-- ---- what a rule makes

-- of a box: its size, its notes, where a Viewport stands scrolled, and the places of the children that have answered, in order
pub record Makes : Type 0 where
  pub size : Size
  pub notes : Notes
  pub scrolled : ℕ
  pub places : List Offset

-- of a sliver
pub record Passes : Type 0 where
  pub geometry : Geometry
  pub places : List Offset

-- the laid children stand at the places
abbrev pub done_with : Makes → List Laid → Done
done_with m ls = record { size = m.size; notes = m.notes; scrolled = m.scrolled; children = placed_at m.places ls }

abbrev pub passed_with : Passes → List Laid → Passed
passed_with m ls = record { geometry = m.geometry; children = placed_at m.places ls }

-- a box of this size with children at these places, and nothing to remark
abbrev pub sized_with : Size → List Offset → Makes
sized_with size places = record { size = size; notes = no_notes; scrolled = 0; places = places }

-- ---- boxes

abbrev pub single_makes : Around → List Frame → Makes
single_makes a [] = sized_with (a.size None) []
single_makes a (f ∷ fs) = let size = a.size (Some (box_size f)) in sized_with size (a.place size (box_size f) ∷ [])

abbrev pub flex_makes : Axis → MainAlign → CrossAlign → MainSize → Bounds → Bool → List Size → Makes
flex_makes axis main cross size b unbounded sizes =
    let whole = flex_size axis size b sizes in
    record {
      size = whole;
      notes = record { overflow = total_of (extents_of axis sizes) - extent_of whole axis; unbounded = unbounded };
      scrolled = 0;
      places = flex_places axis main cross whole sizes;
    }

abbrev pub wrap_makes : ℕ → ℕ → Bounds → List Size → Makes
wrap_makes gap run_gap b sizes = sized_with (constrain b (wrap_size_of sizes b.max_w gap run_gap)) (wrap_places_of sizes b.max_w gap run_gap)

abbrev pub table_makes : List ℕ → Bounds → List Size → Makes
table_makes columns b sizes =
    sized_with (constrain b (table_size_of columns (heights_of sizes))) (table_places_of columns (heights_of sizes))

-- the slivers stand one after another
abbrev pub walk_places : Axis → Walk → List Geometry → List Offset
walk_places axis walk [] = []
walk_places axis walk (g ∷ gs) = offset_along axis (pos walk.at) (pos 0) ∷ walk_places axis (walk_past walk g) gs

abbrev pub view_makes : Axis → Bounds → ℕ → List Geometry → Makes
view_makes axis b start geometries = record {
  size = view_size b;
  notes = record { overflow = 0; unbounded = is_endless b };
  scrolled = start;
  places = walk_places axis (walk_from start) geometries;
}

-- what a rule makes of what the children were told, of the first answers, and of the frames of those that have answered
abbrev pub box_makes : Setting → Look → Bounds → Found → List ParentData → List Frame → Makes
box_makes s (sized_box width height) b found ds fs = single_makes (around s (sized_box width height) b 0) fs
box_makes s (constrained_box min_width max_width min_height max_height) b found ds fs = single_makes (around s (constrained_box min_width max_width min_height max_height) b 0) fs
box_makes s (padding left top right bottom) b found ds fs = single_makes (around s (padding left top right bottom) b 0) fs
box_makes s (align ax ay) b found ds fs = single_makes (around s (align ax ay) b 0) fs
box_makes s (colored_box color) b found ds fs = single_makes (around s (colored_box color) b 0) fs
box_makes s (text words color) b found ds fs = sized_with (constrain b (text_size s.cell words b.max_w)) []
box_makes s (row main cross size) b found ds fs = flex_makes Horizontal main cross size b (asks_unbounded (most_along b Horizontal) ds) (sizes_by fs)
box_makes s (column main cross size) b found ds fs = flex_makes Vertical main cross size b (asks_unbounded (most_along b Vertical) ds) (sizes_by fs)
box_makes s (wrap spacing run_spacing) b found ds fs = wrap_makes spacing run_spacing b (sizes_by fs)
box_makes s (table widths) b found ds fs = table_makes (columns_of widths) b (sizes_by fs)
box_makes s (stack ax ay fit) b found ds fs = sized_with found.size (stack_offsets ax ay found.size ds (sizes_by fs))
box_makes s (flexible flex fit) b found ds fs = sized_with (smallest b) []
box_makes s (positioned left top right bottom width height) b found ds fs = sized_with (smallest b) []
box_makes s (opacity alpha) b found ds fs = single_makes (around s (opacity alpha) b 0) fs
box_makes s clip_rect b found ds fs = single_makes (around s clip_rect b 0) fs
box_makes s repaint_boundary b found ds fs = single_makes (around s repaint_boundary b 0) fs
box_makes s merge_semantics b found ds fs = single_makes (around s merge_semantics b 0) fs
box_makes s intrinsic_width b found ds fs = single_makes (around s intrinsic_width b 0) fs
box_makes s intrinsic_height b found ds fs = single_makes (around s intrinsic_height b 0) fs
box_makes s (offstage hidden) b found ds fs = single_makes (around s (offstage hidden) b 0) fs
box_makes s (ignore_pointer ignoring) b found ds fs = single_makes (around s (ignore_pointer ignoring) b 0) fs
box_makes s (absorb_pointer absorbing) b found ds fs = single_makes (around s (absorb_pointer absorbing) b 0) fs
box_makes s (detector behavior tap long vertical horizontal pan) b found ds fs = single_makes (around s (detector behavior tap long vertical horizontal pan) b 0) fs
box_makes s (semantics label button container) b found ds fs = single_makes (around s (semantics label button container) b 0) fs
box_makes s (exclude_semantics excluding) b found ds fs = single_makes (around s (exclude_semantics excluding) b 0) fs
box_makes s (custom_paint delegate) b found ds fs = single_makes (around s (custom_paint delegate) b 0) fs
box_makes s (custom_layout delegate) b found ds fs = single_makes (around s (custom_layout delegate) b 0) fs
box_makes s (viewport axis) b found ds fs = view_makes axis b found.start (geometries_by fs)
box_makes s sliver_to_box b found ds fs = sized_with (smallest b) []
box_makes s (sliver_padding left top right bottom) b found ds fs = sized_with (smallest b) []
box_makes s (sliver_fixed extent) b found ds fs = sized_with (smallest b) []
box_makes s (sliver_lazy extent) b found ds fs = sized_with (smallest b) []
box_makes s (keep kept) b found ds fs = sized_with (smallest b) []
box_makes s (inherit name value) b found ds fs = sized_with (smallest b) []
box_makes s (component place props declaration) b found ds fs = sized_with (smallest b) []

-- ---- slivers

abbrev pub to_box_makes : SliverBounds → List Frame → Passes
to_box_makes b [] = record { geometry = box_geometry_of b None; places = [] }
to_box_makes b (f ∷ fs) = record {
  geometry = box_geometry_of b (Some (extent_of (box_size f) b.axis));
  places = offset_along b.axis (box_place_of b) (pos 0) ∷ [];
}

abbrev pub padding_makes : Insets → SliverBounds → List Frame → Passes
padding_makes i b [] = record { geometry = padding_of b i None; places = [] }
padding_makes i b (f ∷ fs) = record { geometry = padding_of b i (Some (frame_geometry f)); places = padded_place b i ∷ [] }

-- the places of the items that have answered, each by its index
abbrev pub item_places : SliverBounds → ℕ → List ℕ → List (Option Frame) → List Offset
item_places b extent [] fs = []
item_places b extent (i ∷ is) [] = []
item_places b extent (i ∷ is) (None ∷ fs) = item_places b extent is fs
item_places b extent (i ∷ is) (Some f ∷ fs) = offset_along b.axis (item_place_of b extent i) (pos 0) ∷ item_places b extent is fs

abbrev pub list_makes : ℕ → ℕ → SliverBounds → List ℕ → List (Option Frame) → Passes
list_makes extent count b indices fs = record { geometry = list_geometry_of b extent count; places = item_places b extent indices fs }

abbrev pub sliver_makes : Look → ℕ → SliverBounds → List ParentData → List (Option Frame) → Passes
sliver_makes (sized_box width height) count b ds fs = record { geometry = no_geometry; places = [] }
sliver_makes (constrained_box min_width max_width min_height max_height) count b ds fs = record { geometry = no_geometry; places = [] }
sliver_makes (padding left top right bottom) count b ds fs = record { geometry = no_geometry; places = [] }
sliver_makes (align ax ay) count b ds fs = record { geometry = no_geometry; places = [] }
sliver_makes (colored_box color) count b ds fs = record { geometry = no_geometry; places = [] }
sliver_makes (text words color) count b ds fs = record { geometry = no_geometry; places = [] }
sliver_makes (row main cross size) count b ds fs = record { geometry = no_geometry; places = [] }
sliver_makes (column main cross size) count b ds fs = record { geometry = no_geometry; places = [] }
sliver_makes (wrap spacing run_spacing) count b ds fs = record { geometry = no_geometry; places = [] }
sliver_makes (table widths) count b ds fs = record { geometry = no_geometry; places = [] }
sliver_makes (stack ax ay fit) count b ds fs = record { geometry = no_geometry; places = [] }
sliver_makes (flexible flex fit) count b ds fs = record { geometry = no_geometry; places = [] }
sliver_makes (positioned left top right bottom width height) count b ds fs = record { geometry = no_geometry; places = [] }
sliver_makes (opacity alpha) count b ds fs = record { geometry = no_geometry; places = [] }
sliver_makes clip_rect count b ds fs = record { geometry = no_geometry; places = [] }
sliver_makes repaint_boundary count b ds fs = record { geometry = no_geometry; places = [] }
sliver_makes merge_semantics count b ds fs = record { geometry = no_geometry; places = [] }
sliver_makes intrinsic_width count b ds fs = record { geometry = no_geometry; places = [] }
sliver_makes intrinsic_height count b ds fs = record { geometry = no_geometry; places = [] }
sliver_makes (offstage hidden) count b ds fs = record { geometry = no_geometry; places = [] }
sliver_makes (ignore_pointer ignoring) count b ds fs = record { geometry = no_geometry; places = [] }
sliver_makes (absorb_pointer absorbing) count b ds fs = record { geometry = no_geometry; places = [] }
sliver_makes (detector behavior tap long vertical horizontal pan) count b ds fs = record { geometry = no_geometry; places = [] }
sliver_makes (semantics label button container) count b ds fs = record { geometry = no_geometry; places = [] }
sliver_makes (exclude_semantics excluding) count b ds fs = record { geometry = no_geometry; places = [] }
sliver_makes (custom_paint delegate) count b ds fs = record { geometry = no_geometry; places = [] }
sliver_makes (custom_layout delegate) count b ds fs = record { geometry = no_geometry; places = [] }
sliver_makes (viewport axis) count b ds fs = record { geometry = no_geometry; places = [] }
sliver_makes sliver_to_box count b ds fs = to_box_makes b (frames_given fs)
sliver_makes (sliver_padding left top right bottom) count b ds fs = padding_makes (insets_of left top right bottom) b (frames_given fs)
sliver_makes (sliver_fixed extent) count b ds fs = list_makes extent (length ds) b (counted 0 ds) fs
sliver_makes (sliver_lazy extent) count b ds fs = list_makes extent count b (map (λ d. d.index) ds) fs
sliver_makes (keep kept) count b ds fs = record { geometry = no_geometry; places = [] }
sliver_makes (inherit name value) count b ds fs = record { geometry = no_geometry; places = [] }
sliver_makes (component place props declaration) count b ds fs = record { geometry = no_geometry; places = [] }

-- ---- what the first answers tell, and who is asked then

-- where a Viewport stands scrolled, by how far its slivers can be scrolled through
abbrev pub start_by : Axis → ℕ → Bounds → List ℕ → ℕ
start_by axis offset b extents = corrected_of offset (total_of extents) (extent_of (view_size b) axis)

abbrev pub found_makes : Look → ℕ → Bounds → List (Option Frame) → Found
found_makes (sized_box width height) scroll b fs = nothing_found
found_makes (constrained_box min_width max_width min_height max_height) scroll b fs = nothing_found
found_makes (padding left top right bottom) scroll b fs = nothing_found
found_makes (align ax ay) scroll b fs = nothing_found
found_makes (colored_box color) scroll b fs = nothing_found
found_makes (text words color) scroll b fs = nothing_found
found_makes (row main cross size) scroll b fs = nothing_found
found_makes (column main cross size) scroll b fs = nothing_found
found_makes (wrap spacing run_spacing) scroll b fs = nothing_found
found_makes (table widths) scroll b fs = nothing_found
found_makes (stack ax ay fit) scroll b fs = record { size = stack_size b (sizes_by (frames_given fs)); start = 0 }
found_makes (flexible flex fit) scroll b fs = nothing_found
found_makes (positioned left top right bottom width height) scroll b fs = nothing_found
found_makes (opacity alpha) scroll b fs = nothing_found
found_makes clip_rect scroll b fs = nothing_found
found_makes repaint_boundary scroll b fs = nothing_found
found_makes merge_semantics scroll b fs = nothing_found
found_makes intrinsic_width scroll b fs = nothing_found
found_makes intrinsic_height scroll b fs = nothing_found
found_makes (offstage hidden) scroll b fs = nothing_found
found_makes (ignore_pointer ignoring) scroll b fs = nothing_found
found_makes (absorb_pointer absorbing) scroll b fs = nothing_found
found_makes (detector behavior tap long vertical horizontal pan) scroll b fs = nothing_found
found_makes (semantics label button container) scroll b fs = nothing_found
found_makes (exclude_semantics excluding) scroll b fs = nothing_found
found_makes (custom_paint delegate) scroll b fs = nothing_found
found_makes (custom_layout delegate) scroll b fs = nothing_found
found_makes (viewport axis) scroll b fs = record { size = no_size; start = start_by axis scroll b (scrolls_by fs) }
found_makes sliver_to_box scroll b fs = nothing_found
found_makes (sliver_padding left top right bottom) scroll b fs = nothing_found
found_makes (sliver_fixed extent) scroll b fs = nothing_found
found_makes (sliver_lazy extent) scroll b fs = nothing_found
found_makes (keep kept) scroll b fs = nothing_found
found_makes (inherit name value) scroll b fs = nothing_found
found_makes (component place props declaration) scroll b fs = nothing_found

-- those that haven't answered, each in its bounds
abbrev pub other_by : Bounds → Option Frame → Option Ask
other_by b None = Some (AsBox b)
other_by b (Some f) = None

abbrev pub others_by : List Bounds → List (Option Frame) → List (Option Ask)
others_by [] fs = []
others_by (b ∷ bs) [] = []
others_by (b ∷ bs) (f ∷ fs) = other_by b f ∷ others_by bs fs

abbrev pub flex_rest_by : Axis → CrossAlign → Bounds → List ParentData → List (Option Frame) → List (Option Ask)
flex_rest_by axis cross b ds fs =
    others_by (flex_bounds axis cross b (most_along b axis) (total_of (extents_of axis (sizes_by (frames_given fs)))) ds) fs

abbrev pub stack_rest_by : StackFit → Bounds → Size → List ParentData → List (Option Frame) → List (Option Ask)
stack_rest_by fit b size ds fs = others_by (map (λ d. stack_child (free_bounds fit b) size (position_of d.placed)) ds) fs

-- how far each sliver can be scrolled through, where it has answered
abbrev pub extents_by : List (Option Frame) → List (Option ℕ)
extents_by fs = map (λ slot. option_map (λ f. (frame_geometry f).scroll) slot) fs

-- the views of the slivers of a Viewport, by how far each can be scrolled through
abbrev pub views_by : Axis → ℕ → ℕ → Walk → List (Option ℕ) → List (Option Ask)
views_by axis main cross walk [] = []
views_by axis main cross walk (None ∷ extents) = None ∷ views_by axis main cross walk extents
views_by axis main cross walk (Some n ∷ extents) =
    let v = view_of axis main cross walk in Some (AsSliver v) ∷ views_by axis main cross (walk_past walk (geometry_of v n)) extents

-- what they give there
abbrev pub geometries_from : Axis → ℕ → ℕ → Walk → List ℕ → List Geometry
geometries_from axis main cross walk [] = []
geometries_from axis main cross walk (n ∷ extents) =
    let g = geometry_of (view_of axis main cross walk) n in g ∷ geometries_from axis main cross (walk_past walk g) extents

abbrev pub view_rest_by : Axis → ℕ → Bounds → List (Option ℕ) → List (Option Ask)
view_rest_by axis start b extents =
    views_by axis (extent_of (view_size b) axis) (extent_of (view_size b) (other_of axis)) (walk_from start) extents

abbrev pub rest_makes : Look → Bounds → Found → List ParentData → List (Option Frame) → List (Option Ask)
rest_makes (sized_box width height) b found ds fs = nobody
rest_makes (constrained_box min_width max_width min_height max_height) b found ds fs = nobody
rest_makes (padding left top right bottom) b found ds fs = nobody
rest_makes (align ax ay) b found ds fs = nobody
rest_makes (colored_box color) b found ds fs = nobody
rest_makes (text words color) b found ds fs = nobody
rest_makes (row main cross size) b found ds fs = flex_rest_by Horizontal cross b ds fs
rest_makes (column main cross size) b found ds fs = flex_rest_by Vertical cross b ds fs
rest_makes (wrap spacing run_spacing) b found ds fs = nobody
rest_makes (table widths) b found ds fs = nobody
rest_makes (stack ax ay fit) b found ds fs = stack_rest_by fit b found.size ds fs
rest_makes (flexible flex fit) b found ds fs = nobody
rest_makes (positioned left top right bottom width height) b found ds fs = nobody
rest_makes (opacity alpha) b found ds fs = nobody
rest_makes clip_rect b found ds fs = nobody
rest_makes repaint_boundary b found ds fs = nobody
rest_makes merge_semantics b found ds fs = nobody
rest_makes intrinsic_width b found ds fs = nobody
rest_makes intrinsic_height b found ds fs = nobody
rest_makes (offstage hidden) b found ds fs = nobody
rest_makes (ignore_pointer ignoring) b found ds fs = nobody
rest_makes (absorb_pointer absorbing) b found ds fs = nobody
rest_makes (detector behavior tap long vertical horizontal pan) b found ds fs = nobody
rest_makes (semantics label button container) b found ds fs = nobody
rest_makes (exclude_semantics excluding) b found ds fs = nobody
rest_makes (custom_paint delegate) b found ds fs = nobody
rest_makes (custom_layout delegate) b found ds fs = nobody
rest_makes (viewport axis) b found ds fs = view_rest_by axis found.start b (extents_by fs)
rest_makes sliver_to_box b found ds fs = nobody
rest_makes (sliver_padding left top right bottom) b found ds fs = nobody
rest_makes (sliver_fixed extent) b found ds fs = nobody
rest_makes (sliver_lazy extent) b found ds fs = nobody
rest_makes (keep kept) b found ds fs = nobody
rest_makes (inherit name value) b found ds fs = nobody
rest_makes (component place props declaration) b found ds fs = nobody

-- a sliver asks once, by what its children were told
abbrev pub sliver_asks : Look → ℕ → SliverBounds → List ParentData → List (Option Ask)
sliver_asks (sized_box width height) count b ds = nobody
sliver_asks (constrained_box min_width max_width min_height max_height) count b ds = nobody
sliver_asks (padding left top right bottom) count b ds = nobody
sliver_asks (align ax ay) count b ds = nobody
sliver_asks (colored_box color) count b ds = nobody
sliver_asks (text words color) count b ds = nobody
sliver_asks (row main cross size) count b ds = nobody
sliver_asks (column main cross size) count b ds = nobody
sliver_asks (wrap spacing run_spacing) count b ds = nobody
sliver_asks (table widths) count b ds = nobody
sliver_asks (stack ax ay fit) count b ds = nobody
sliver_asks (flexible flex fit) count b ds = nobody
sliver_asks (positioned left top right bottom width height) count b ds = nobody
sliver_asks (opacity alpha) count b ds = nobody
sliver_asks clip_rect count b ds = nobody
sliver_asks repaint_boundary count b ds = nobody
sliver_asks merge_semantics count b ds = nobody
sliver_asks intrinsic_width count b ds = nobody
sliver_asks intrinsic_height count b ds = nobody
sliver_asks (offstage hidden) count b ds = nobody
sliver_asks (ignore_pointer ignoring) count b ds = nobody
sliver_asks (absorb_pointer absorbing) count b ds = nobody
sliver_asks (detector behavior tap long vertical horizontal pan) count b ds = nobody
sliver_asks (semantics label button container) count b ds = nobody
sliver_asks (exclude_semantics excluding) count b ds = nobody
sliver_asks (custom_paint delegate) count b ds = nobody
sliver_asks (custom_layout delegate) count b ds = nobody
sliver_asks (viewport axis) count b ds = nobody
sliver_asks sliver_to_box count b ds = first_alone (AsBox (box_bounds b))
sliver_asks (sliver_padding left top right bottom) count b ds = first_alone (AsSliver (padded_of b (insets_of left top right bottom)))
sliver_asks (sliver_fixed extent) count b ds = items_first b extent (window_of b extent (length ds)) (counted 0 ds)
sliver_asks (sliver_lazy extent) count b ds = items_first b extent (window_of b extent count) (map (λ d. d.index) ds)
sliver_asks (keep kept) count b ds = nobody
sliver_asks (inherit name value) count b ds = nobody
sliver_asks (component place props declaration) count b ds = nobody
