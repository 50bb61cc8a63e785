-- The rules by frames alone come to the rules.
use Rattle.std.proofs.Common.{◌≡◌, ap, refl, ◌∙◌, ℕ, Bool, Option, Some, None, option_map, List, [], ◌∷◌, map, length}
use Rattle.std.specs.Prelude.{pos}
use Rattle.fx_geom.specs.declared.boxes.Bounds.{Bounds}
use Rattle.fx_geom.specs.declared.shapes.Axis.{Axis}
use Rattle.fx_geom.specs.declared.shapes.Axis.TheVariants.{Horizontal, Vertical}
use Rattle.fx_geom.specs.declared.shapes.Insets.{Insets}
use Rattle.fx_geom.specs.declared.shapes.Size.{Size}
use Rattle.fx_geom.specs.declared.words.CrossAlign.{CrossAlign}
use Rattle.fx_geom.specs.declared.words.MainAlign.{MainAlign}
use Rattle.fx_geom.specs.Along.{most_along, offset_along}
use Rattle.fx_geom.specs.Len.{total_of}
use Rattle.fx_geom.specs.Size.{no_size}
use Rattle.sliver_layout.specs.declared.protocol.Geometry.{Geometry}
use Rattle.sliver_layout.specs.declared.protocol.SliverBounds.{SliverBounds}
use Rattle.sliver_layout.specs.declared.protocol.Walk.{Walk}
use Rattle.sliver_layout.specs.Lists.{list_geometry_of, item_place_of}
use Rattle.sliver_layout.specs.Slivers.{walk_from, walk_past}
use Rattle.widget_model.specs.declared.words.MainSize.{MainSize}
use Rattle.widget_model.specs.Look.{Look, sized_box, constrained_box, padding, align, colored_box, text, row, column, wrap, table, stack, flexible, positioned, opacity, clip_rect, repaint_boundary, merge_semantics, intrinsic_width, intrinsic_height, offstage, ignore_pointer, absorb_pointer, detector, semantics, exclude_semantics, custom_paint, custom_layout, viewport, sliver_to_box, sliver_padding, sliver_fixed, sliver_lazy, keep, inherit, component}
use Rattle.plain_tree.specs.declared.laid.Frame.{Frame}
use Rattle.plain_tree.specs.declared.render.ParentData.{ParentData}
use Rattle.plain_tree.specs.Laid.{Laid, Stood}
use Rattle.layout_form.specs.declared.asks.Ask.{Ask}
use Rattle.layout_form.specs.declared.asks.Ask.TheVariants.{AsBox}
use Rattle.layout_form.specs.Object.{Setting, Object, frame_geometry, size_in, sizes_in, geometry_in, extents_of, placed, placed_at}
use Rattle.layout_form.specs.Single.{Around, insets_of, around}
use Rattle.layout_form.specs.FlexRule.{flex_bounds, asks_unbounded, flex_done}
use Rattle.layout_form.specs.StackRule.{stack_size, stack_offsets}
use Rattle.layout_form.specs.WrapTable.{columns_of}
use Rattle.layout_form.specs.SliverRule.{view_done, counted}
use Rattle.layout_form.specs.Protocol.{answered, round, nothing, present, others, Found, box_rest, found_by, single_made, walk_placed, view_made, to_box_made, padding_made, items_made, list_made, box_made, sliver_made}
use Rattle.layout_form.specs.Frames.{frame_in, frames_in, frames_given, sizes_by, geometries_by, done_with, passed_with, sized_with, single_makes, flex_makes, wrap_makes, table_makes, walk_places, view_makes, box_makes, to_box_makes, padding_makes, item_places, list_makes, sliver_makes, found_makes, others_by, rest_makes, start_by}
use Rattle.layout_form.specs.Framed.{framed, answers_of, last_ask, last_asks}

-- ---- lists of answers

-- what is given of those that have answered
pub given_are : (slots : List (Option Laid)) → map frame_in (present slots) ≡ frames_given (frames_in slots)
given_are [] = refl
given_are (None ∷ slots) = given_are slots
given_are (Some l ∷ slots) = ap (λ (fs : List Frame). frame_in l ∷ fs) (given_are slots)

sizes_are : (ls : List Laid) → sizes_in ls ≡ sizes_by (map frame_in ls)
sizes_are [] = refl
sizes_are (l ∷ ls) = ap (λ (ss : List Size). size_in l ∷ ss) (sizes_are ls)

sizes_given : (slots : List (Option Laid)) → sizes_in (present slots) ≡ sizes_by (frames_given (frames_in slots))
sizes_given slots = sizes_are (present slots) ∙ ap sizes_by (given_are slots)

geometries_are : (ls : List Laid) → map geometry_in ls ≡ geometries_by (map frame_in ls)
geometries_are [] = refl
geometries_are (l ∷ ls) = ap (λ (gs : List Geometry). geometry_in l ∷ gs) (geometries_are ls)

scrolls_given : (slots : List (Option Laid))
    → map (λ (l : Laid). (geometry_in l).scroll) (present slots) ≡ map (λ (f : Frame). (frame_geometry f).scroll) (frames_given (frames_in slots))
scrolls_given [] = refl
scrolls_given (None ∷ slots) = scrolls_given slots
scrolls_given (Some l ∷ slots) = ap (λ (ns : List ℕ). (geometry_in l).scroll ∷ ns) (scrolls_given slots)

-- nobody is asked
none_answer : (cs : List Object) → frames_in (nothing cs) ≡ answers_of [] (map framed cs)
none_answer [] = refl
none_answer (c ∷ cs) = ap (λ (fs : List (Option Frame)). None ∷ fs) (none_answer cs)

one_answers : (ask : Option Ask) (c : Object) → option_map frame_in (answered ask None c) ≡ option_map (framed c) ask
one_answers None c = refl
one_answers (Some ask) c = refl

-- the frames of a round are how the children answer
pub answers_are : (asks : List (Option Ask)) (cs : List Object) → frames_in (round asks (nothing cs) cs) ≡ answers_of asks (map framed cs)
answers_are [] cs = none_answer cs
answers_are (ask ∷ asks) [] = refl
answers_are (ask ∷ asks) (c ∷ cs) = λ at. one_answers ask c at ∷ answers_are asks cs at

last_answers : (before ask : Option Ask) (c : Object) → answered ask (answered before None c) c ≡ answered (last_ask before ask) None c
last_answers before None c = refl
last_answers before (Some ask) c = refl

-- two rounds are one, of which each child is asked what it was asked last
pub rounds_are : (first rest : List (Option Ask)) (cs : List Object)
    → round rest (round first (nothing cs) cs) cs ≡ round (last_asks first rest) (nothing cs) cs
rounds_are [] [] cs = refl
rounds_are [] (ask ∷ rest) cs = refl
rounds_are (before ∷ first) [] cs = refl
rounds_are (before ∷ first) (ask ∷ rest) [] = refl
rounds_are (before ∷ first) (ask ∷ rest) (c ∷ cs) = λ at. last_answers before ask c at ∷ rounds_are first rest cs at

-- ---- what is made of the answers

single_by : (a : Around) (ls : List Laid) → single_made a ls ≡ done_with (single_makes a (map frame_in ls)) ls
single_by a [] = refl
single_by a (l ∷ ls) = refl

flex_by : (axis : Axis) (main : MainAlign) (cross : CrossAlign) (size : MainSize) (b : Bounds) (unbounded : Bool) (ls : List Laid)
    → flex_done axis main cross size b unbounded ls ≡ done_with (flex_makes axis main cross size b unbounded (sizes_by (map frame_in ls))) ls
flex_by axis main cross size b unbounded ls =
    ap (λ (sizes : List Size). done_with (flex_makes axis main cross size b unbounded sizes) ls) (sizes_are ls)

walk_by : (axis : Axis) (walk : Walk) (ls : List Laid) → walk_placed axis walk ls ≡ placed_at (walk_places axis walk (map geometry_in ls)) ls
walk_by axis walk [] = refl
walk_by axis walk (l ∷ ls) = ap (λ (xs : List Stood). placed (offset_along axis (pos walk.at) (pos 0)) l ∷ xs) (walk_by axis (walk_past walk (geometry_in l)) ls)

view_by : (axis : Axis) (b : Bounds) (start : ℕ) (ls : List Laid)
    → view_made axis b start ls ≡ done_with (view_makes axis b start (geometries_by (map frame_in ls))) ls
view_by axis b start ls =
    ap (λ (xs : List Stood). view_done b start xs) (walk_by axis (walk_from start) ls)
    ∙ ap (λ (gs : List Geometry). done_with (view_makes axis b start gs) ls) (geometries_are ls)

-- a box makes of laid children what it makes of their frames
pub box_by : (s : Setting) (l : Look) (b : Bounds) (found : Found) (ds : List ParentData) (ls : List Laid)
    → box_made s l b found ds ls ≡ done_with (box_makes s l b found ds (map frame_in ls)) ls
box_by s (sized_box m0 m1) b found ds ls = single_by (around s (sized_box m0 m1) b 0) ls
box_by s (constrained_box m0 m1 m2 m3) b found ds ls = single_by (around s (constrained_box m0 m1 m2 m3) b 0) ls
box_by s (padding m0 m1 m2 m3) b found ds ls = single_by (around s (padding m0 m1 m2 m3) b 0) ls
box_by s (align m0 m1) b found ds ls = single_by (around s (align m0 m1) b 0) ls
box_by s (colored_box m0) b found ds ls = single_by (around s (colored_box m0) b 0) ls
box_by s (text m0 m1) b found ds ls = refl
box_by s (row m0 m1 m2) b found ds ls = flex_by Horizontal m0 m1 m2 b (asks_unbounded (most_along b Horizontal) ds) ls
box_by s (column m0 m1 m2) b found ds ls = flex_by Vertical m0 m1 m2 b (asks_unbounded (most_along b Vertical) ds) ls
box_by s (wrap m0 m1) b found ds ls = ap (λ (sizes : List Size). done_with (wrap_makes m0 m1 b sizes) ls) (sizes_are ls)
box_by s (table m0) b found ds ls = ap (λ (sizes : List Size). done_with (table_makes (columns_of m0) b sizes) ls) (sizes_are ls)
box_by s (stack m0 m1 m2) b found ds ls = ap (λ (sizes : List Size). done_with (sized_with found.size (stack_offsets m0 m1 found.size ds sizes)) ls) (sizes_are ls)
box_by s (flexible m0 m1) b found ds ls = refl
box_by s (positioned m0 m1 m2 m3 m4 m5) b found ds ls = refl
box_by s (opacity m0) b found ds ls = single_by (around s (opacity m0) b 0) ls
box_by s clip_rect b found ds ls = single_by (around s clip_rect b 0) ls
box_by s repaint_boundary b found ds ls = single_by (around s repaint_boundary b 0) ls
box_by s merge_semantics b found ds ls = single_by (around s merge_semantics b 0) ls
box_by s intrinsic_width b found ds ls = single_by (around s intrinsic_width b 0) ls
box_by s intrinsic_height b found ds ls = single_by (around s intrinsic_height b 0) ls
box_by s (offstage m0) b found ds ls = single_by (around s (offstage m0) b 0) ls
box_by s (ignore_pointer m0) b found ds ls = single_by (around s (ignore_pointer m0) b 0) ls
box_by s (absorb_pointer m0) b found ds ls = single_by (around s (absorb_pointer m0) b 0) ls
box_by s (detector m0 m1 m2 m3 m4 m5) b found ds ls = single_by (around s (detector m0 m1 m2 m3 m4 m5) b 0) ls
box_by s (semantics m0 m1 m2) b found ds ls = single_by (around s (semantics m0 m1 m2) b 0) ls
box_by s (exclude_semantics m0) b found ds ls = single_by (around s (exclude_semantics m0) b 0) ls
box_by s (custom_paint m0) b found ds ls = single_by (around s (custom_paint m0) b 0) ls
box_by s (custom_layout m0) b found ds ls = single_by (around s (custom_layout m0) b 0) ls
box_by s (viewport m0) b found ds ls = view_by m0 b found.start ls
box_by s sliver_to_box b found ds ls = refl
box_by s (sliver_padding m0 m1 m2 m3) b found ds ls = refl
box_by s (sliver_fixed m0) b found ds ls = refl
box_by s (sliver_lazy m0) b found ds ls = refl
box_by s (keep m0) b found ds ls = refl
box_by s (inherit m0 m1) b found ds ls = refl
box_by s (component m0 m1 m2) b found ds ls = refl

to_box_by : (b : SliverBounds) (ls : List Laid) → to_box_made b ls ≡ passed_with (to_box_makes b (map frame_in ls)) ls
to_box_by b [] = refl
to_box_by b (l ∷ ls) = refl

padding_by : (i : Insets) (b : SliverBounds) (ls : List Laid) → padding_made i b ls ≡ passed_with (padding_makes i b (map frame_in ls)) ls
padding_by i b [] = refl
padding_by i b (l ∷ ls) = refl

items_by : (b : SliverBounds) (extent : ℕ) (is : List ℕ) (slots : List (Option Laid))
    → items_made b extent is slots ≡ placed_at (item_places b extent is (frames_in slots)) (present slots)
items_by b extent [] slots = refl
items_by b extent (i ∷ is) [] = refl
items_by b extent (i ∷ is) (None ∷ slots) = items_by b extent is slots
items_by b extent (i ∷ is) (Some l ∷ slots) = ap (λ (xs : List Stood). placed (offset_along b.axis (item_place_of b extent i) (pos 0)) l ∷ xs) (items_by b extent is slots)

list_by : (extent count : ℕ) (b : SliverBounds) (is : List ℕ) (slots : List (Option Laid))
    → list_made extent count b is slots ≡ passed_with (list_makes extent count b is (frames_in slots)) (present slots)
list_by extent count b is slots = ap (λ (xs : List Stood). record { geometry = list_geometry_of b extent count; children = xs }) (items_by b extent is slots)

-- a sliver makes of laid children what it makes of their frames
pub sliver_by : (l : Look) (count : ℕ) (b : SliverBounds) (ds : List ParentData) (slots : List (Option Laid))
    → sliver_made l count b ds slots ≡ passed_with (sliver_makes l count b ds (frames_in slots)) (present slots)
sliver_by (sized_box m0 m1) count b ds slots = refl
sliver_by (constrained_box m0 m1 m2 m3) count b ds slots = refl
sliver_by (padding m0 m1 m2 m3) count b ds slots = refl
sliver_by (align m0 m1) count b ds slots = refl
sliver_by (colored_box m0) count b ds slots = refl
sliver_by (text m0 m1) count b ds slots = refl
sliver_by (row m0 m1 m2) count b ds slots = refl
sliver_by (column m0 m1 m2) count b ds slots = refl
sliver_by (wrap m0 m1) count b ds slots = refl
sliver_by (table m0) count b ds slots = refl
sliver_by (stack m0 m1 m2) count b ds slots = refl
sliver_by (flexible m0 m1) count b ds slots = refl
sliver_by (positioned m0 m1 m2 m3 m4 m5) count b ds slots = refl
sliver_by (opacity m0) count b ds slots = refl
sliver_by clip_rect count b ds slots = refl
sliver_by repaint_boundary count b ds slots = refl
sliver_by merge_semantics count b ds slots = refl
sliver_by intrinsic_width count b ds slots = refl
sliver_by intrinsic_height count b ds slots = refl
sliver_by (offstage m0) count b ds slots = refl
sliver_by (ignore_pointer m0) count b ds slots = refl
sliver_by (absorb_pointer m0) count b ds slots = refl
sliver_by (detector m0 m1 m2 m3 m4 m5) count b ds slots = refl
sliver_by (semantics m0 m1 m2) count b ds slots = refl
sliver_by (exclude_semantics m0) count b ds slots = refl
sliver_by (custom_paint m0) count b ds slots = refl
sliver_by (custom_layout m0) count b ds slots = refl
sliver_by (viewport m0) count b ds slots = refl
sliver_by sliver_to_box count b ds slots = to_box_by b (present slots) ∙ ap (λ (fs : List Frame). passed_with (to_box_makes b fs) (present slots)) (given_are slots)
sliver_by (sliver_padding m0 m1 m2 m3) count b ds slots = padding_by (insets_of m0 m1 m2 m3) b (present slots) ∙ ap (λ (fs : List Frame). passed_with (padding_makes (insets_of m0 m1 m2 m3) b fs) (present slots)) (given_are slots)
sliver_by (sliver_fixed m0) count b ds slots = list_by m0 (length ds) b (counted 0 ds) slots
sliver_by (sliver_lazy m0) count b ds slots = list_by m0 count b (map (λ (d : ParentData). d.index) ds) slots
sliver_by (keep m0) count b ds slots = refl
sliver_by (inherit m0 m1) count b ds slots = refl
sliver_by (component m0 m1 m2) count b ds slots = refl

-- ---- what the first answers tell

pub found_is : (l : Look) (scroll : ℕ) (b : Bounds) (slots : List (Option Laid)) → found_by l scroll b slots ≡ found_makes l scroll b (frames_in slots)
found_is (sized_box m0 m1) scroll b slots = refl
found_is (constrained_box m0 m1 m2 m3) scroll b slots = refl
found_is (padding m0 m1 m2 m3) scroll b slots = refl
found_is (align m0 m1) scroll b slots = refl
found_is (colored_box m0) scroll b slots = refl
found_is (text m0 m1) scroll b slots = refl
found_is (row m0 m1 m2) scroll b slots = refl
found_is (column m0 m1 m2) scroll b slots = refl
found_is (wrap m0 m1) scroll b slots = refl
found_is (table m0) scroll b slots = refl
found_is (stack m0 m1 m2) scroll b slots = ap (λ (sizes : List Size). record { size = stack_size b sizes; start = 0 }) (sizes_given slots)
found_is (flexible m0 m1) scroll b slots = refl
found_is (positioned m0 m1 m2 m3 m4 m5) scroll b slots = refl
found_is (opacity m0) scroll b slots = refl
found_is clip_rect scroll b slots = refl
found_is repaint_boundary scroll b slots = refl
found_is merge_semantics scroll b slots = refl
found_is intrinsic_width scroll b slots = refl
found_is intrinsic_height scroll b slots = refl
found_is (offstage m0) scroll b slots = refl
found_is (ignore_pointer m0) scroll b slots = refl
found_is (absorb_pointer m0) scroll b slots = refl
found_is (detector m0 m1 m2 m3 m4 m5) scroll b slots = refl
found_is (semantics m0 m1 m2) scroll b slots = refl
found_is (exclude_semantics m0) scroll b slots = refl
found_is (custom_paint m0) scroll b slots = refl
found_is (custom_layout m0) scroll b slots = refl
found_is (viewport m0) scroll b slots = ap (λ (ns : List ℕ). record { size = no_size; start = start_by m0 scroll b ns }) (scrolls_given slots)
found_is sliver_to_box scroll b slots = refl
found_is (sliver_padding m0 m1 m2 m3) scroll b slots = refl
found_is (sliver_fixed m0) scroll b slots = refl
found_is (sliver_lazy m0) scroll b slots = refl
found_is (keep m0) scroll b slots = refl
found_is (inherit m0 m1) scroll b slots = refl
found_is (component m0 m1 m2) scroll b slots = refl

other_is : (b : Bounds) (bs : List Bounds) (slot : Option Laid) (slots : List (Option Laid)) → others bs slots ≡ others_by bs (frames_in slots)
    → others (b ∷ bs) (slot ∷ slots) ≡ others_by (b ∷ bs) (frames_in (slot ∷ slots))
other_is b bs None slots e = ap (λ (asks : List (Option Ask)). Some (AsBox b) ∷ asks) e
other_is b bs (Some l) slots e = ap (λ (asks : List (Option Ask)). None ∷ asks) e

others_are : (bs : List Bounds) (slots : List (Option Laid)) → others bs slots ≡ others_by bs (frames_in slots)
others_are [] slots = refl
others_are (b ∷ bs) [] = refl
others_are (b ∷ bs) (slot ∷ slots) = other_is b bs slot slots (others_are bs slots)

flex_rest_is : (axis : Axis) (cross : CrossAlign) (b : Bounds) (ds : List ParentData) (slots : List (Option Laid))
    → others (flex_bounds axis cross b (most_along b axis) (total_of (extents_of axis (sizes_in (present slots)))) ds) slots
    ≡ others_by (flex_bounds axis cross b (most_along b axis) (total_of (extents_of axis (sizes_by (frames_given (frames_in slots))))) ds) (frames_in slots)
flex_rest_is axis cross b ds slots =
    ap (λ (sizes : List Size). others (flex_bounds axis cross b (most_along b axis) (total_of (extents_of axis sizes)) ds) slots) (sizes_given slots)
    ∙ others_are (flex_bounds axis cross b (most_along b axis) (total_of (extents_of axis (sizes_by (frames_given (frames_in slots))))) ds) slots

-- any kind but a Viewport, whose slivers are measured otherwise
abbrev pub IsNoViewport : Look → Type 0
IsNoViewport (sized_box width height) = Unit {0}
IsNoViewport (constrained_box min_width max_width min_height max_height) = Unit {0}
IsNoViewport (padding left top right bottom) = Unit {0}
IsNoViewport (align ax ay) = Unit {0}
IsNoViewport (colored_box color) = Unit {0}
IsNoViewport (text words color) = Unit {0}
IsNoViewport (row main cross size) = Unit {0}
IsNoViewport (column main cross size) = Unit {0}
IsNoViewport (wrap spacing run_spacing) = Unit {0}
IsNoViewport (table widths) = Unit {0}
IsNoViewport (stack ax ay fit) = Unit {0}
IsNoViewport (flexible flex fit) = Unit {0}
IsNoViewport (positioned left top right bottom width height) = Unit {0}
IsNoViewport (opacity alpha) = Unit {0}
IsNoViewport clip_rect = Unit {0}
IsNoViewport repaint_boundary = Unit {0}
IsNoViewport merge_semantics = Unit {0}
IsNoViewport intrinsic_width = Unit {0}
IsNoViewport intrinsic_height = Unit {0}
IsNoViewport (offstage hidden) = Unit {0}
IsNoViewport (ignore_pointer ignoring) = Unit {0}
IsNoViewport (absorb_pointer absorbing) = Unit {0}
IsNoViewport (detector behavior tap long vertical horizontal pan) = Unit {0}
IsNoViewport (semantics label button container) = Unit {0}
IsNoViewport (exclude_semantics excluding) = Unit {0}
IsNoViewport (custom_paint delegate) = Unit {0}
IsNoViewport (custom_layout delegate) = Unit {0}
IsNoViewport (viewport axis) = ⊥
IsNoViewport sliver_to_box = Unit {0}
IsNoViewport (sliver_padding left top right bottom) = Unit {0}
IsNoViewport (sliver_fixed extent) = Unit {0}
IsNoViewport (sliver_lazy extent) = Unit {0}
IsNoViewport (keep kept) = Unit {0}
IsNoViewport (inherit name value) = Unit {0}
IsNoViewport (component place props declaration) = Unit {0}

-- who is asked then depends on the frames of the first answers
pub rest_is : (l : Look) (b : Bounds) (found : Found) (ds : List ParentData) (slots : List (Option Laid)) → IsNoViewport l
    → box_rest l b found ds slots ≡ rest_makes l b found ds (frames_in slots)
rest_is (sized_box m0 m1) b found ds slots else_than = refl
rest_is (constrained_box m0 m1 m2 m3) b found ds slots else_than = refl
rest_is (padding m0 m1 m2 m3) b found ds slots else_than = refl
rest_is (align m0 m1) b found ds slots else_than = refl
rest_is (colored_box m0) b found ds slots else_than = refl
rest_is (text m0 m1) b found ds slots else_than = refl
rest_is (row m0 m1 m2) b found ds slots else_than = flex_rest_is Horizontal m1 b ds slots
rest_is (column m0 m1 m2) b found ds slots else_than = flex_rest_is Vertical m1 b ds slots
rest_is (wrap m0 m1) b found ds slots else_than = refl
rest_is (table m0) b found ds slots else_than = refl
rest_is (stack m0 m1 m2) b found ds slots else_than = others_are _ slots
rest_is (flexible m0 m1) b found ds slots else_than = refl
rest_is (positioned m0 m1 m2 m3 m4 m5) b found ds slots else_than = refl
rest_is (opacity m0) b found ds slots else_than = refl
rest_is clip_rect b found ds slots else_than = refl
rest_is repaint_boundary b found ds slots else_than = refl
rest_is merge_semantics b found ds slots else_than = refl
rest_is intrinsic_width b found ds slots else_than = refl
rest_is intrinsic_height b found ds slots else_than = refl
rest_is (offstage m0) b found ds slots else_than = refl
rest_is (ignore_pointer m0) b found ds slots else_than = refl
rest_is (absorb_pointer m0) b found ds slots else_than = refl
rest_is (detector m0 m1 m2 m3 m4 m5) b found ds slots else_than = refl
rest_is (semantics m0 m1 m2) b found ds slots else_than = refl
rest_is (exclude_semantics m0) b found ds slots else_than = refl
rest_is (custom_paint m0) b found ds slots else_than = refl
rest_is (custom_layout m0) b found ds slots else_than = refl
rest_is (viewport m0) b found ds slots else_than = absurd else_than
rest_is sliver_to_box b found ds slots else_than = refl
rest_is (sliver_padding m0 m1 m2 m3) b found ds slots else_than = refl
rest_is (sliver_fixed m0) b found ds slots else_than = refl
rest_is (sliver_lazy m0) b found ds slots else_than = refl
rest_is (keep m0) b found ds slots else_than = refl
rest_is (inherit m0 m1) b found ds slots else_than = refl
rest_is (component m0 m1 m2) b found ds slots else_than = refl
