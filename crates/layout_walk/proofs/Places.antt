-- A rule makes a place for each child that has answered.
use Rattle.std.proofs.Common.{◌≡◌, ap, refl, sym, ◌∙◌, ℕ, zero, suc, ◌+◌, ◌<◌, ◌≤◌, ◌==◌, Bool, true, false, if◌then◌else◌, Option, Some, None, List, [], ◌∷◌, ◌++◌, map, length, take, arith, length-append}
use Rattle.std.proofs.lemmas.Bool.Decides.{nat_tests}
use Rattle.std.proofs.lemmas.List.{length-map, length-take-le}
use Rattle.std.specs.Prelude.{ℤ}
use Rattle.fx_geom.specs.declared.boxes.Bounds.{Bounds}
use Rattle.fx_geom.specs.declared.lengths.Len.{Len}
use Rattle.fx_geom.specs.declared.shapes.Axis.{Axis}
use Rattle.fx_geom.specs.declared.shapes.Axis.TheVariants.{Horizontal, Vertical}
use Rattle.fx_geom.specs.declared.shapes.Offset.{Offset}
use Rattle.fx_geom.specs.declared.shapes.Size.{Size}
use Rattle.fx_geom.specs.declared.words.CrossAlign.{CrossAlign}
use Rattle.fx_geom.specs.declared.words.MainAlign.{MainAlign}
use Rattle.fx_geom.specs.Insets.{extent_of, other_of}
use Rattle.sliver_layout.specs.declared.protocol.Geometry.{Geometry}
use Rattle.sliver_layout.specs.declared.protocol.SliverBounds.{SliverBounds}
use Rattle.sliver_layout.specs.declared.protocol.Walk.{Walk}
use Rattle.sliver_layout.specs.Slivers.{walk_past}
use Rattle.wrap_table.specs.Places.{Run, offset_at, places_from, places_of, wrap_run, wrap_places_of, table_row, table_places_of}
use Rattle.wrap_table.specs.Runs.{cut_after, cut_of, exceeds, is_full}
use Rattle.wrap_table.specs.Stretches.{starts_from}
use Rattle.widget_model.specs.Look.{Look, text, row, column, wrap, table, stack, flexible, positioned, viewport, sliver_to_box, sliver_padding, sliver_fixed, sliver_lazy, keep, inherit, component}
use Rattle.plain_tree.specs.declared.laid.Frame.{Frame}
use Rattle.plain_tree.specs.declared.render.ParentData.{ParentData}
use Rattle.layout_form.specs.declared.asks.Ask.{Ask}
use Rattle.layout_form.specs.declared.asks.Ask.TheVariants.{AsBox, AsSliver}
use Rattle.layout_form.specs.Object.{Setting, extents_of}
use Rattle.layout_form.specs.Single.{Around, around, insets_of}
use Rattle.layout_form.specs.FlexRule.{flex_offsets, flex_places}
use Rattle.layout_form.specs.StackRule.{stack_offsets}
use Rattle.layout_form.specs.WrapTable.{heights_of, columns_of}
use Rattle.layout_form.specs.SliverRule.{counted, box_bounds}
use Rattle.layout_form.specs.Frames.{frames_given, sizes_by, geometries_by, single_makes, walk_places, to_box_makes, padding_makes, item_places, sliver_makes, sliver_asks}
use Rattle.layout_form.specs.Framed.{answers_of, last_asks, box_asks, box_given}
use Rattle.sliver_layout.specs.Slivers.{padded_of}

abbrev given_for : List (Option Ask) → List (Ask → Frame) → List Frame
given_for asks gs = frames_given (answers_of asks gs)

-- nobody is asked
none_given : (gs : List (Ask → Frame)) → given_for [] gs ≡ []
none_given [] = refl
none_given (g ∷ gs) = none_given gs

no_places : (gs : List (Ask → Frame)) → zero ≡ length (given_for [] gs)
no_places gs = sym (ap length (none_given gs))

-- an only child
abbrev one_place : (List Frame → List Offset) → Ask → List (Ask → Frame) → Type 0
one_place places ask gs = length (places (given_for (Some ask ∷ []) gs)) ≡ length (given_for (Some ask ∷ []) gs)

only_place : (places : List Frame → List Offset) → length (places []) ≡ 0 → ((f : Frame) (fs : List Frame) → length (places (f ∷ fs)) ≡ 1) → (ask : Ask) (gs : List (Ask → Frame)) → one_place places ask gs
only_place places empty one ask [] = empty
only_place places empty one ask (g ∷ gs) = one (g ask) (given_for [] gs) ∙ ap (λ (fs : List Frame). suc (length fs)) (sym (none_given gs))

single_place : (a : Around) (ask : Ask) (gs : List (Ask → Frame)) → one_place (λ fs. (single_makes a fs).places) ask gs
single_place a ask gs = only_place (λ fs. (single_makes a fs).places) refl (λ f fs. refl) ask gs

-- children in a row
length-sizes : (fs : List Frame) → length (sizes_by fs) ≡ length fs
length-sizes [] = refl
length-sizes (f ∷ fs) = ap suc (length-sizes fs)

flex_count : (axis : Axis) (cross : CrossAlign) (outer gap from : ℕ) (sizes : List Size)
    → length (flex_offsets axis cross outer (starts_from gap from (extents_of axis sizes)) sizes) ≡ length sizes
flex_count axis cross outer gap from [] = refl
flex_count axis cross outer gap from (size ∷ sizes) = ap suc (flex_count axis cross outer gap (from + extent_of size axis + gap) sizes)

flex_enough : (axis : Axis) (main : MainAlign) (cross : CrossAlign) (whole : Size) (fs : List Frame) → length (flex_places axis main cross whole (sizes_by fs)) ≡ length fs
flex_enough axis main cross whole fs = flex_count axis cross (extent_of whole (other_of axis)) _ _ (sizes_by fs) ∙ length-sizes fs

-- in runs, one below another: each child of a run that is cut so has a place in it
module _ {A : Type 0} (ends : List A → A → Bool) (lay : List A → Run) (Holds : List A → Type 0)
    (fits : (s : List A) → Holds s → length (lay s).lefts ≡ length s)
    (one : (x : A) → Holds (x ∷ []))
    (more : (s : List A) (x : A) → Holds s → ends s x ≡ false → Holds (s ++ x ∷ [])) where
  length-places : (gap top : ℕ) (run : Run) (runs : List Run) → length (places_from gap top (run ∷ runs)) ≡ length run.lefts + length (places_from gap (top + run.height + gap) runs)
  length-places gap top run runs = length-append (map (offset_at top) run.lefts) (places_from gap (top + run.height + gap) runs)
      ∙ ap (λ (n : ℕ). n + length (places_from gap (top + run.height + gap) runs)) (length-map run.lefts (offset_at top))

  cut_count : (gap top : ℕ) (s xs : List A) → Holds s → length (places_from gap top (map lay (cut_after ends s xs))) ≡ length s + length xs
  cut_count gap top s [] held =
      let here = length-places gap top (lay s) [] in
      let all = fits s held in
      omega arith
  cut_count gap top s (x ∷ xs) held =
      elim (ends s x)
      as (λ b. ends s x ≡ b → length (places_from gap top (map lay (if b then s ∷ cut_after ends (x ∷ []) xs else cut_after ends (s ++ x ∷ []) xs))) ≡ length s + length (x ∷ xs)) [
        | true ↦ λ e.
            let here = length-places gap top (lay s) (map lay (cut_after ends (x ∷ []) xs)) in
            let all = fits s held in
            let next = cut_count gap (top + (lay s).height + gap) (x ∷ []) xs (one x) in
            omega arith
        | false ↦ λ e.
            let next = cut_count gap top (s ++ x ∷ []) xs (more s x held e) in
            let longer = length-append s (x ∷ []) in
            omega arith
      ] refl

  runs_count : (gap : ℕ) (xs : List A) → length (places_of gap (map lay (cut_of ends xs))) ≡ length xs
  runs_count gap [] = refl
  runs_count gap (x ∷ xs) = let all = cut_count gap 0 (x ∷ []) xs (one x) in omega arith

length-starts : (gap from : ℕ) (es : List ℕ) → length (starts_from gap from es) ≡ length es
length-starts gap from [] = refl
length-starts gap from (e ∷ es) = ap suc (length-starts gap (from + e + gap) es)

wrap_enough : (limit : Len) (gap run_gap : ℕ) (fs : List Frame) → length (wrap_places_of (sizes_by fs) limit gap run_gap) ≡ length fs
wrap_enough limit gap run_gap fs =
    runs_count (exceeds limit gap) (wrap_run gap) (λ s. Unit {0})
    (λ s held. length-starts gap 0 (map (λ (child : Size). child.w) s) ∙ length-map s (λ (child : Size). child.w))
    (λ x. tt) (λ s x held e. tt) run_gap (sizes_by fs)
    ∙ length-sizes fs

length-heights : (sizes : List Size) → length (heights_of sizes) ≡ length sizes
length-heights [] = refl
length-heights (size ∷ sizes) = ap suc (length-heights sizes)

some_columns : (widths : List ℤ) → 1 ≤ length (columns_of widths)
some_columns [] = omega arith
some_columns (w ∷ ws) = omega arith

row_fits : (widths heights : List ℕ) → length heights ≤ length widths → length (table_row widths heights).lefts ≡ length heights
row_fits widths heights few = length-starts 0 0 (take (length heights) widths) ∙ length-take-le (length heights) widths few

row_more : (n : ℕ) (s : List ℕ) (x : ℕ) → length s ≤ n → is_full n s x ≡ false → length (s ++ x ∷ []) ≤ n
row_more n s x few open_row =
    let longer = length-append s (x ∷ []) in
    let less : length s < n = is_less s n few open_row in
    omega arith
  where
    is_less : (line : List ℕ) (n : ℕ) → length line ≤ n → (length line == n) ≡ false → length line < n
    is_less line n h g = grind (arith, nat_tests)

table_enough : (widths : List ℤ) (fs : List Frame) → length (table_places_of (columns_of widths) (heights_of (sizes_by fs))) ≡ length fs
table_enough widths fs =
    let columns = columns_of widths in
    runs_count (is_full (length columns)) (table_row columns) (λ s. length s ≤ length columns) (row_fits columns) (λ x. some_columns widths) (row_more (length columns)) 0 (heights_of (sizes_by fs))
    ∙ length-heights (sizes_by fs)
    ∙ length-sizes fs

-- on top of one another
stack_count : (ax ay : ℤ) (whole : Size) (ds : List ParentData) (sizes : List Size) → length sizes ≤ length ds → length (stack_offsets ax ay whole ds sizes) ≡ length sizes
stack_count ax ay whole [] [] few = refl
stack_count ax ay whole [] (size ∷ sizes) few = absurd (omega arith)
stack_count ax ay whole (d ∷ ds) [] few = refl
stack_count ax ay whole (d ∷ ds) (size ∷ sizes) few = ap suc (stack_count ax ay whole ds sizes (omega arith))

few_given : (fs : List (Option Frame)) → length (frames_given fs) ≤ length fs
few_given [] = omega arith
few_given (None ∷ fs) = let few = few_given fs in omega arith
few_given (Some f ∷ fs) = let few = few_given fs in omega arith

length-answers : (asks : List (Option Ask)) (gs : List (Ask → Frame)) → length (answers_of asks gs) ≡ length gs
length-answers [] [] = refl
length-answers (ask ∷ asks) [] = refl
length-answers [] (g ∷ gs) = ap suc (length-answers [] gs)
length-answers (ask ∷ asks) (g ∷ gs) = ap suc (length-answers asks gs)

few_for : (asks : List (Option Ask)) (gs : List (Ask → Frame)) (n : ℕ) → length gs ≤ n → length (given_for asks gs) ≤ n
few_for asks gs n few = let some = few_given (answers_of asks gs) in let same = length-answers asks gs in omega arith

stack_enough : (ax ay : ℤ) (whole : Size) (ds : List ParentData) (asks : List (Option Ask)) (gs : List (Ask → Frame)) → length gs ≤ length ds
    → length (stack_offsets ax ay whole ds (sizes_by (given_for asks gs))) ≡ length (given_for asks gs)
stack_enough ax ay whole ds asks gs few =
    let same = length-sizes (given_for asks gs) in
    stack_count ax ay whole ds (sizes_by (given_for asks gs)) (let some = few_for asks gs (length ds) few in omega arith) ∙ same

-- one after another
walk_count : (axis : Axis) (walk : Walk) (gs : List Geometry) → length (walk_places axis walk gs) ≡ length gs
walk_count axis walk [] = refl
walk_count axis walk (g ∷ gs) = ap suc (walk_count axis (walk_past walk g) gs)

length-geometries : (fs : List Frame) → length (geometries_by fs) ≡ length fs
length-geometries [] = refl
length-geometries (f ∷ fs) = ap suc (length-geometries fs)

-- ---- boxes

pub box_enough : (s : Setting) (look : Look) (scroll : ℕ) (b : Bounds) (liked : ℕ) (ds : List ParentData) (gs : List (Ask → Frame)) → length gs ≤ length ds
    → length (box_given s look scroll b liked ds gs).places ≡ length (given_for (box_asks s look scroll b liked ds gs) gs)
box_enough s (text m0 m1) scroll b liked ds gs few = no_places gs
box_enough s (flexible m0 m1) scroll b liked ds gs few = no_places gs
box_enough s (positioned m0 m1 m2 m3 m4 m5) scroll b liked ds gs few = no_places gs
box_enough s sliver_to_box scroll b liked ds gs few = no_places gs
box_enough s (sliver_padding m0 m1 m2 m3) scroll b liked ds gs few = no_places gs
box_enough s (sliver_fixed m0) scroll b liked ds gs few = no_places gs
box_enough s (sliver_lazy m0) scroll b liked ds gs few = no_places gs
box_enough s (keep m0) scroll b liked ds gs few = no_places gs
box_enough s (inherit m0 m1) scroll b liked ds gs few = no_places gs
box_enough s (component m0 m1 m2) scroll b liked ds gs few = no_places gs
box_enough s (row m0 m1 m2) scroll b liked ds gs few = flex_enough Horizontal m0 m1 _ (given_for (box_asks s (row m0 m1 m2) scroll b liked ds gs) gs)
box_enough s (column m0 m1 m2) scroll b liked ds gs few = flex_enough Vertical m0 m1 _ (given_for (box_asks s (column m0 m1 m2) scroll b liked ds gs) gs)
box_enough s (wrap m0 m1) scroll b liked ds gs few = wrap_enough b.max_w m0 m1 (given_for (box_asks s (wrap m0 m1) scroll b liked ds gs) gs)
box_enough s (table m0) scroll b liked ds gs few = table_enough m0 (given_for (box_asks s (table m0) scroll b liked ds gs) gs)
box_enough s (stack m0 m1 m2) scroll b liked ds gs few = stack_enough m0 m1 _ ds (box_asks s (stack m0 m1 m2) scroll b liked ds gs) gs few
box_enough s (viewport m0) scroll b liked ds gs few =
    walk_count m0 _ (geometries_by (given_for (box_asks s (viewport m0) scroll b liked ds gs) gs)) ∙ length-geometries (given_for (box_asks s (viewport m0) scroll b liked ds gs) gs)
box_enough s look scroll b liked ds gs few = single_place (around s look b 0) (AsBox (around s look b liked).inner) gs

-- ---- slivers

item_count : (b : SliverBounds) (extent : ℕ) (is : List ℕ) (fs : List (Option Frame)) → length fs ≤ length is → length (item_places b extent is fs) ≡ length (frames_given fs)
item_count b extent [] [] few = refl
item_count b extent [] (f ∷ fs) few = absurd (omega arith)
item_count b extent (i ∷ is) [] few = refl
item_count b extent (i ∷ is) (None ∷ fs) few = item_count b extent is fs (omega arith)
item_count b extent (i ∷ is) (Some f ∷ fs) few = ap suc (item_count b extent is fs (omega arith))

length-counted : (i : ℕ) (ds : List ParentData) → length (counted i ds) ≡ length ds
length-counted i [] = refl
length-counted i (d ∷ ds) = ap suc (length-counted (suc i) ds)

length-indices : (ds : List ParentData) → length (map (λ (d : ParentData). d.index) ds) ≡ length ds
length-indices [] = refl
length-indices (d ∷ ds) = ap suc (length-indices ds)

items_enough : (b : SliverBounds) (extent : ℕ) (is : List ℕ) (asks : List (Option Ask)) (gs : List (Ask → Frame)) → length gs ≤ length is
    → length (item_places b extent is (answers_of asks gs)) ≡ length (given_for asks gs)
items_enough b extent is asks gs few = item_count b extent is (answers_of asks gs) (let same = length-answers asks gs in omega arith)

abbrev all_asks : Look → ℕ → SliverBounds → List ParentData → List (Option Ask)
all_asks look count b ds = last_asks (sliver_asks look count b ds) []

pub sliver_enough : (look : Look) (count : ℕ) (b : SliverBounds) (ds : List ParentData) (gs : List (Ask → Frame)) → length gs ≤ length ds
    → length (sliver_makes look count b ds (answers_of (all_asks look count b ds) gs)).places ≡ length (given_for (all_asks look count b ds) gs)
sliver_enough sliver_to_box count b ds gs few = only_place (λ fs. (to_box_makes b fs).places) refl (λ f fs. refl) (AsBox (box_bounds b)) gs
sliver_enough (sliver_padding m0 m1 m2 m3) count b ds gs few =
    only_place (λ fs. (padding_makes (insets_of m0 m1 m2 m3) b fs).places) refl (λ f fs. refl) (AsSliver (padded_of b (insets_of m0 m1 m2 m3))) gs
sliver_enough (sliver_fixed m0) count b ds gs few =
    items_enough b m0 (counted 0 ds) (all_asks (sliver_fixed m0) count b ds) gs (let same = length-counted 0 ds in omega arith)
sliver_enough (sliver_lazy m0) count b ds gs few =
    items_enough b m0 (map (λ (d : ParentData). d.index) ds) (all_asks (sliver_lazy m0) count b ds) gs (let same = length-indices ds in omega arith)
sliver_enough look count b ds gs few = no_places gs
