-- Two rounds come to the rules.
use Rattle.std.proofs.Common.{◌≡◌, ap, refl, sym, ◌∙◌, ℕ, suc, ◌+◌, ◌-◌, Bool, true, false, not, cond, Option, Some, None, List, [], ◌∷◌, map, length, if◌then◌else◌}
use Rattle.std.specs.Prelude.{ℤ, pos, is_none}
use Rattle.std.specs.List.{filter}
use Rattle.fx_geom.specs.declared.boxes.Bounds.{Bounds}
use Rattle.fx_geom.specs.declared.lengths.Len.{Len}
use Rattle.fx_geom.specs.declared.lengths.Len.TheVariants.{Finite, Unbounded}
use Rattle.fx_geom.specs.declared.shapes.Axis.{Axis}
use Rattle.fx_geom.specs.declared.shapes.Axis.TheVariants.{Horizontal, Vertical}
use Rattle.fx_geom.specs.declared.shapes.Insets.{Insets}
use Rattle.fx_geom.specs.declared.shapes.Size.{Size}
use Rattle.fx_geom.specs.declared.words.CrossAlign.{CrossAlign}
use Rattle.fx_geom.specs.declared.words.MainAlign.{MainAlign}
use Rattle.fx_geom.specs.declared.words.Placed.{Placed}
use Rattle.fx_geom.specs.declared.words.StackFit.{StackFit}
use Rattle.fx_geom.specs.Along.{size_along, offset_along, most_along}
use Rattle.fx_geom.specs.Bounds.{loose, tight}
use Rattle.fx_geom.specs.Insets.{other_of, extent_of, before, along}
use Rattle.fx_geom.specs.Len.{total_of}
use Rattle.sliver_layout.specs.declared.protocol.Geometry.{Geometry}
use Rattle.sliver_layout.specs.declared.protocol.SliverBounds.{SliverBounds}
use Rattle.sliver_layout.specs.declared.protocol.Walk.{Walk}
use Rattle.sliver_layout.specs.declared.protocol.Window.{Window}
use Rattle.sliver_layout.specs.Lists.{window_of, list_geometry_of}
use Rattle.sliver_layout.specs.Slivers.{padding_of, paint_offset_of, corrected_of, walk_from, view_of, walk_past}
use Rattle.flex_layout.specs.Flex.{shares_after}
use Rattle.delegates.specs.Table.{meaning_of}
use Rattle.widget_model.specs.declared.words.MainSize.{MainSize}
use Rattle.widget_model.specs.Look.{Look, sized_box, constrained_box, padding, align, colored_box, text, row, column, wrap, table, stack, flexible, positioned, opacity, clip_rect, repaint_boundary, merge_semantics, intrinsic_width, intrinsic_height, offstage, ignore_pointer, absorb_pointer, detector, semantics, exclude_semantics, custom_paint, custom_layout, viewport, sliver_to_box, sliver_padding, sliver_fixed, sliver_lazy, keep, inherit, component}
use Rattle.plain_tree.specs.declared.render.ParentData.{ParentData}
use Rattle.plain_tree.specs.Render.{Render, render, Renders, no_renders, more_renders}
use Rattle.plain_tree.specs.Laid.{Laid, Stood, laids_of}
use Rattle.layout_form.specs.declared.asks.Ask.{Ask}
use Rattle.layout_form.specs.declared.asks.Ask.TheVariants.{AsBox, AsSliver}
use Rattle.layout_form.specs.Object.{Setting, Object, Passed, size_in, sizes_in, geometry_in, extents_of, placed, each_in, datas, only_of}
use Rattle.layout_form.specs.Single.{Around, single, passing, proxy, within_own, sized_bounds, constrained_bounds, insets_of, padded_box, aligned_box, offstage_box, as_wide, as_high, painted_box, delegated_box}
use Rattle.layout_form.specs.Intrinsic.{child_extent}
use Rattle.layout_form.specs.FlexRule.{factors_of, is_flexible, is_rigid, unshared, bounds_by, flex_bounds, fixed_extent, asks_unbounded, flex_done, flex_rule}
use Rattle.layout_form.specs.StackRule.{position_of, is_free, free_bounds, stack_size, stack_child, stack_done, stack_rule}
use Rattle.layout_form.specs.WrapTable.{wrap_done, columns_of, column_at, cell_bounds, cells_from, table_done}
use Rattle.layout_form.specs.SliverRule.{view_size, view_done, unseen, scroll_total, walked, viewport_rule, to_box_rule, padding_rule, is_among, item_in, items_in, list_rule, counted}
use Rattle.layout_form.specs.Layout.{box_rule, sliver_rule, laid_sliver, object, objects}
use Rattle.layout_form.specs.Protocol.{answered, round, nothing, present, ask_if, asks_where, goes_first, everybody, cells_first, items_first, first_alone, others, measured, measured_by, walk_views, start_of, flex_first, flex_rest, stack_from, stack_rest, view_rest, single_made, walk_placed, view_made, measured_first, items_made, list_made, asked_box, first_kept, IsKept, asked_sliver}
use Rattle.layout_form.proofs.Blind.{seen_from}

-- ---- one child

abbrev asked_alone : Ask → List Object → List Laid
asked_alone ask cs = present (round (first_alone ask) (nothing cs) cs)

single_asked : (a : Around) (cs : List Object) → single_made a (asked_alone (AsBox a.inner) cs) ≡ single a (only_of cs)
single_asked a [] = refl
single_asked a (c ∷ cs) = refl

-- the size and the place don't depend on the bounds that the child gets
passing_asked : (other inner b : Bounds) (cs : List Object) → single_made (passing other b) (asked_alone (AsBox inner) cs) ≡ single (passing inner b) (only_of cs)
passing_asked other inner b [] = refl
passing_asked other inner b (c ∷ cs) = refl

-- ---- those who are asked first, and those who aren't

first_one : {X : Type 0} (g : Laid → X) (t : Bool) (inner : Bounds) (c : Object) (slots : List (Option Laid)) (cs : List Object)
    → map g (present slots) ≡ map (λ (c : Object). g (c.in_bounds inner)) cs
    → map g (present (answered (ask_if t (AsBox inner)) None c ∷ slots)) ≡ map (λ (c : Object). g (c.in_bounds inner)) (cond t (c ∷ cs) cs)
first_one {X} g true inner c slots cs e = ap (λ (xs : List X). g (c.in_bounds inner) ∷ xs) e
first_one g false inner c slots cs e = e

asked_first : {X : Type 0} (g : Laid → X) (test : ParentData → Bool) (inner : Bounds) (cs : List Object)
    → map g (present (round (asks_where test (AsBox inner) (datas cs)) (nothing cs) cs))
    ≡ map (λ (c : Object). g (c.in_bounds inner)) (filter (λ (c : Object). test c.parent_data) cs)
asked_first g test inner [] = refl
asked_first g test inner (c ∷ cs) =
    first_one g (test c.parent_data) inner c (round (asks_where test (AsBox inner) (datas cs)) (nothing cs) cs) (filter (λ (c : Object). test c.parent_data) cs)
    (asked_first g test inner cs)

-- the bounds of those who were asked first are those that they were asked in
abbrev Agrees : (ParentData → Bool) → Bounds → List Bounds → List Object → Type 0
Agrees test inner [] [] = Unit {0}
Agrees test inner [] (c ∷ cs) = ⊥
Agrees test inner (b ∷ bs) [] = ⊥
Agrees test inner (b ∷ bs) (c ∷ cs) = (test c.parent_data ≡ true → b ≡ inner) × Agrees test inner bs cs

all_one : (t : Bool) (b inner : Bounds) (c : Object) (bs : List Bounds) (ks : List (Option Laid)) (cs : List Object) → (t ≡ true → b ≡ inner)
    → present (round (others bs ks) ks cs) ≡ each_in bs cs
    → present (round (others (b ∷ bs) (answered (ask_if t (AsBox inner)) None c ∷ ks)) (answered (ask_if t (AsBox inner)) None c ∷ ks) (c ∷ cs))
    ≡ c.in_bounds b ∷ each_in bs cs
all_one true b inner c bs ks cs same e =
    ap (λ (x : Bounds). c.in_bounds x ∷ present (round (others bs ks) ks cs)) (sym (same refl)) ∙ ap (λ (ls : List Laid). c.in_bounds b ∷ ls) e
all_one false b inner c bs ks cs same e = ap (λ (ls : List Laid). c.in_bounds b ∷ ls) e

abbrev asked_before : (ParentData → Bool) → Bounds → List Object → List (Option Laid)
asked_before test inner cs = round (asks_where test (AsBox inner) (datas cs)) (nothing cs) cs

all_asked : (test : ParentData → Bool) (inner : Bounds) (bs : List Bounds) (cs : List Object) → Agrees test inner bs cs
    → present (round (others bs (asked_before test inner cs)) (asked_before test inner cs) cs) ≡ each_in bs cs
all_asked test inner [] [] agrees = refl
all_asked test inner [] (c ∷ cs) agrees = absurd agrees
all_asked test inner (b ∷ bs) [] agrees = absurd agrees
all_asked test inner (b ∷ bs) (c ∷ cs) agrees =
    all_one (test c.parent_data) b inner c bs (asked_before test inner cs) cs agrees.0 (all_asked test inner bs cs agrees.1)

-- ---- Row, Column

rigid_is : (t : Bool) (x y : Bounds) → not t ≡ true → (if t then x else y) ≡ y
rigid_is true x y e = cc
rigid_is false x y e = refl

shares_agree : (axis : Axis) (cross : CrossAlign) (b : Bounds) (free total at : ℕ) (cs : List Object)
    → Agrees is_rigid (unshared axis cross b) (bounds_by axis cross b (datas cs) (shares_after free total at (factors_of (datas cs)))) cs
shares_agree axis cross b free total at [] = tt
shares_agree axis cross b free total at (c ∷ cs) =
    (rigid_is (is_flexible c.parent_data) _ (unshared axis cross b), shares_agree axis cross b free total (at + c.parent_data.flex) cs)

same_agree : (inner : Bounds) (cs : List Object) → Agrees (goes_first Unbounded) inner (map (λ (d : ParentData). inner) (datas cs)) cs
same_agree inner [] = tt
same_agree inner (c ∷ cs) = (λ e. refl, same_agree inner cs)

laid_asked : (axis : Axis) (cross : CrossAlign) (b : Bounds) (most : Len) (cs : List Object)
    → let k = asked_before (goes_first most) (unshared axis cross b) cs in
    present (round (others (flex_bounds axis cross b most (total_of (extents_of axis (sizes_in (present k)))) (datas cs)) k) k cs)
    ≡ each_in (flex_bounds axis cross b most (fixed_extent axis cross b cs) (datas cs)) cs
laid_asked axis cross b (Finite most) cs =
    let k = asked_before is_rigid (unshared axis cross b) cs in
    all_asked is_rigid (unshared axis cross b) (flex_bounds axis cross b (Finite most) (total_of (extents_of axis (sizes_in (present k)))) (datas cs)) cs
    (shares_agree axis cross b _ _ 0 cs)
    ∙ ap (λ (ss : List Size). each_in (flex_bounds axis cross b (Finite most) (total_of (extents_of axis ss)) (datas cs)) cs)
    (asked_first size_in is_rigid (unshared axis cross b) cs)
laid_asked axis cross b Unbounded cs =
    all_asked (goes_first Unbounded) (unshared axis cross b) (map (λ (d : ParentData). unshared axis cross b) (datas cs)) cs (same_agree (unshared axis cross b) cs)

flex_asked : (axis : Axis) (main : MainAlign) (cross : CrossAlign) (size : MainSize) (b : Bounds) (cs : List Object)
    → let k = round (flex_first axis cross b (datas cs)) (nothing cs) cs in
    flex_done axis main cross size b (asks_unbounded (most_along b axis) (datas cs)) (present (round (flex_rest axis cross b (datas cs) k) k cs))
    ≡ flex_rule axis main cross size b cs
flex_asked axis main cross size b cs =
    ap (λ (ls : List Laid). flex_done axis main cross size b (asks_unbounded (most_along b axis) (datas cs)) ls) (laid_asked axis cross b (most_along b axis) cs)

-- ---- Stack

free_is : (inner : Bounds) (size : Size) (p : Option Placed) → is_none p ≡ true → stack_child inner size p ≡ inner
free_is inner size None e = refl
free_is inner size (Some p) e = cc

stack_agrees : (inner : Bounds) (size : Size) (cs : List Object)
    → Agrees is_free inner (map (λ (d : ParentData). stack_child inner size (position_of d.placed)) (datas cs)) cs
stack_agrees inner size [] = tt
stack_agrees inner size (c ∷ cs) = (free_is inner size (position_of c.parent_data.placed), stack_agrees inner size cs)

stack_asked : (ax ay : ℤ) (fit : StackFit) (b : Bounds) (cs : List Object)
    → let k = asked_before is_free (free_bounds fit b) cs in
    stack_done ax ay (stack_from b k) (datas cs) (present (round (stack_rest fit b (stack_from b k) (datas cs) k) k cs)) ≡ stack_rule ax ay fit b cs
stack_asked ax ay fit b cs =
    let inner = free_bounds fit b in
    let k = asked_before is_free inner cs in
    ap (λ (ls : List Laid). stack_done ax ay (stack_from b k) (datas cs) ls)
    (all_asked is_free inner (map (λ (d : ParentData). stack_child inner (stack_from b k) (position_of d.placed)) (datas cs)) cs (stack_agrees inner (stack_from b k) cs))
    ∙ ap (λ (ss : List Size). stack_done ax ay (stack_size b ss) (datas cs)
    (each_in (map (λ (d : ParentData). stack_child inner (stack_size b ss) (position_of d.placed)) (datas cs)) cs))
    (asked_first size_in is_free inner cs)

-- ---- Wrap, Table

every_asked : (inner : Bounds) (cs : List Object)
    → present (round (everybody (AsBox inner) (datas cs)) (nothing cs) cs) ≡ map (λ (c : Object). c.in_bounds inner) cs
every_asked inner [] = refl
every_asked inner (c ∷ cs) = ap (λ (ls : List Laid). c.in_bounds inner ∷ ls) (every_asked inner cs)

cells_asked : (columns : List ℕ) (i : ℕ) (cs : List Object)
    → present (round (cells_first columns i (datas cs)) (nothing cs) cs) ≡ cells_from columns i cs
cells_asked columns i [] = refl
cells_asked columns i (c ∷ cs) = ap (λ (ls : List Laid). c.in_bounds (cell_bounds (column_at columns i)) ∷ ls) (cells_asked columns (suc i) cs)

-- ---- slivers

-- what is kept of a sliver is what its rule gives where nothing is seen
abbrev IsKeptFrom : Setting → ℕ → Look → ℕ → SliverBounds → Option Laid → List Object → Type 0
IsKeptFrom s number l count b None cs = Unit {0}
IsKeptFrom s number l count b (Some x) cs = x ≡ laid_sliver s number l (unseen b.axis b.cross) (sliver_rule l count (unseen b.axis b.cross) cs)

-- the child of a SliverToBox is asked where nothing is kept of it
to_box_asked : (s : Setting) (number count : ℕ) (b : SliverBounds) (kept : Option Laid) (cs : List Object)
    → IsKeptFrom s number sliver_to_box count b kept cs → asked_sliver sliver_to_box count b kept cs ≡ to_box_rule b (only_of cs)
to_box_asked s number count b None [] kept = refl
to_box_asked s number count b None (c ∷ cs) kept = refl
to_box_asked s number count b (Some l) [] kept = refl
to_box_asked s number count b (Some l) (c ∷ cs) kept = rw kept refl

padding_asked : (m0 m1 m2 m3 count : ℕ) (b : SliverBounds) (kept : Option Laid) (cs : List Object)
    → asked_sliver (sliver_padding m0 m1 m2 m3) count b kept cs ≡ padding_rule (insets_of m0 m1 m2 m3) b (only_of cs)
padding_asked m0 m1 m2 m3 count b kept [] = refl
padding_asked m0 m1 m2 m3 count b kept (c ∷ cs) = refl

none_kept : (cs : List Object) → first_kept None cs ≡ nothing cs
none_kept [] = refl
none_kept (c ∷ cs) = refl

item_one : (t : Bool) (b : SliverBounds) (extent i : ℕ) (is : List ℕ) (c : Object) (ks : List (Option Laid)) (xs : List Stood)
    → items_made b extent is ks ≡ xs
    → items_made b extent (i ∷ is) (answered (ask_if t (AsBox (tight (size_along b.axis extent b.cross)))) None c ∷ ks)
    ≡ (if t then item_in b extent i c ∷ xs else xs)
item_one true b extent i is c ks xs e = ap (λ (ys : List Stood). item_in b extent i c ∷ ys) e
item_one false b extent i is c ks xs e = e

items_asked : (b : SliverBounds) (extent : ℕ) (w : Window) (is : List ℕ) (cs : List Object)
    → items_made b extent is (round (items_first b extent w is) (nothing cs) cs) ≡ items_in b extent w is cs
items_asked b extent w [] cs = refl
items_asked b extent w (i ∷ is) [] = refl
items_asked b extent w (i ∷ is) (c ∷ cs) =
    item_one (is_among w i) b extent i is c (round (items_first b extent w is) (nothing cs) cs) (items_in b extent w is cs) (items_asked b extent w is cs)

counted_same : (i : ℕ) (cs : List Object) → counted i (datas cs) ≡ counted i cs
counted_same i [] = refl
counted_same i (c ∷ cs) = ap (λ (is : List ℕ). i ∷ is) (counted_same (suc i) cs)

length_same : (cs : List Object) → length (datas cs) ≡ length cs
length_same [] = refl
length_same (c ∷ cs) = ap suc (length_same cs)

indices_same : (cs : List Object) → map (λ (d : ParentData). d.index) (datas cs) ≡ map (λ (c : Object). c.parent_data.index) cs
indices_same [] = refl
indices_same (c ∷ cs) = ap (λ (is : List ℕ). c.parent_data.index ∷ is) (indices_same cs)

abbrev listed : ℕ → ℕ → SliverBounds → List Stood → Passed
listed extent count b xs = record { geometry = list_geometry_of b extent count; children = xs }

pub fixed_asked : (extent : ℕ) (b : SliverBounds) (cs : List Object)
    → list_made extent (length (datas cs)) b (counted 0 (datas cs)) (round (items_first b extent (window_of b extent (length (datas cs))) (counted 0 (datas cs))) (nothing cs) cs)
    ≡ list_rule extent (length cs) b (counted 0 cs) cs
fixed_asked extent b cs =
    ap (λ (n : ℕ). list_made extent n b (counted 0 (datas cs)) (round (items_first b extent (window_of b extent n) (counted 0 (datas cs))) (nothing cs) cs)) (length_same cs)
    ∙ ap (λ (is : List ℕ). list_made extent (length cs) b is (round (items_first b extent (window_of b extent (length cs)) is) (nothing cs) cs)) (counted_same 0 cs)
    ∙ ap (λ (xs : List Stood). listed extent (length cs) b xs) (items_asked b extent (window_of b extent (length cs)) (counted 0 cs) cs)

pub lazy_asked : (extent count : ℕ) (b : SliverBounds) (cs : List Object)
    → list_made extent count b (map (λ (d : ParentData). d.index) (datas cs))
    (round (items_first b extent (window_of b extent count) (map (λ (d : ParentData). d.index) (datas cs))) (nothing cs) cs)
    ≡ list_rule extent count b (map (λ (c : Object). c.parent_data.index) cs) cs
lazy_asked extent count b cs =
    ap (λ (is : List ℕ). list_made extent count b is (round (items_first b extent (window_of b extent count) is) (nothing cs) cs)) (indices_same cs)
    ∙ ap (λ (xs : List Stood). listed extent count b xs) (items_asked b extent (window_of b extent count) (map (λ (c : Object). c.parent_data.index) cs) cs)

-- ---- Viewport

-- what an object gave in one view says what it gives in another
pub record Measured (c : Object) : Type 0 where
  pub same : (axis : Axis) (cross a r e f : ℕ)
      → measured (c.in_view (seen_from axis cross a r)) (seen_from axis cross e f) ≡ geometry_in (c.in_view (seen_from axis cross e f))

abbrev pub AllMeasured : List Object → Type 0
AllMeasured [] = Unit {0}
AllMeasured (c ∷ cs) = Measured c × AllMeasured cs

scrolls_asked : (axis : Axis) (cross : ℕ) (cs : List Object)
    → map (λ (l : Laid). (geometry_in l).scroll) (present (round (everybody (AsSliver (unseen axis cross)) (datas cs)) (nothing cs) cs))
    ≡ map (λ (c : Object). (geometry_in (c.in_view (unseen axis cross))).scroll) cs
scrolls_asked axis cross [] = refl
scrolls_asked axis cross (c ∷ cs) =
    ap (λ (ns : List ℕ). (geometry_in (c.in_view (unseen axis cross))).scroll ∷ ns) (scrolls_asked axis cross cs)

abbrev unseen_all : Axis → ℕ → List Object → List (Option Laid)
unseen_all axis cross cs = round (everybody (AsSliver (unseen axis cross)) (datas cs)) (nothing cs) cs

walk_asked : (axis : Axis) (main cross : ℕ) (walk : Walk) (cs : List Object) → AllMeasured cs
    → walk_placed axis walk (present (round (walk_views axis main cross walk (unseen_all axis cross cs)) (unseen_all axis cross cs) cs))
    ≡ walked axis main cross walk cs
walk_asked axis main cross walk [] all = refl
walk_asked axis main cross walk (c ∷ cs) all =
    let v = view_of axis main cross walk in
    let l = c.in_view v in
    let here = placed (offset_along axis (pos walk.at) (pos 0)) l in
    ap (λ (g : Geometry). here ∷ walk_placed axis (walk_past walk (geometry_in l))
    (present (round (walk_views axis main cross (walk_past walk g) (unseen_all axis cross cs)) (unseen_all axis cross cs) cs)))
    (all.0.same axis cross 0 0 walk.left (main - walk.at))
    ∙ ap (λ (xs : List Stood). here ∷ xs) (walk_asked axis main cross (walk_past walk (geometry_in l)) cs all.1)

view_asked : (axis : Axis) (scroll : ℕ) (b : Bounds) (cs : List Object) → AllMeasured cs
    → let k = unseen_all axis (extent_of (view_size b) (other_of axis)) cs in
    view_made axis b (start_of axis scroll b k) (present (round (view_rest axis (start_of axis scroll b k) b k) k cs)) ≡ viewport_rule axis scroll b cs
view_asked axis scroll b cs all =
    let main = extent_of (view_size b) axis in
    let cross = extent_of (view_size b) (other_of axis) in
    let k = unseen_all axis cross cs in
    let start = corrected_of scroll (scroll_total axis cross cs) main in
    ap (λ (ns : List ℕ). let st = corrected_of scroll (total_of ns) main in
    view_made axis b st (present (round (walk_views axis main cross (walk_from st) k) k cs)))
    (scrolls_asked axis cross cs)
    ∙ ap (λ (xs : List Stood). view_done b start xs) (walk_asked axis main cross (walk_from start) cs all)

-- ---- all kinds

padding_measured : (i : Insets) (axis : Axis) (cross a r e f : ℕ) (cs : List Object) → AllMeasured cs
    → measured_by (sliver_padding i.left i.top i.right i.bottom) (padding_rule i (seen_from axis cross a r) (only_of cs)).geometry
    (laids_of (padding_rule i (seen_from axis cross a r) (only_of cs)).children)
    (measured_first (laids_of (padding_rule i (seen_from axis cross a r) (only_of cs)).children)) (seen_from axis cross e f)
    ≡ (padding_rule i (seen_from axis cross e f) (only_of cs)).geometry
padding_measured i axis cross a r e f [] all = refl
padding_measured i axis cross a r e f (c ∷ cs) all =
    ap (λ (g : Geometry). padding_of (seen_from axis cross e f) i (Some g))
    (all.0.same axis (cross - along i (other_of axis))
    (a - before i axis) (r - paint_offset_of (seen_from axis cross a r) 0 (before i axis))
    (e - before i axis) (f - paint_offset_of (seen_from axis cross e f) 0 (before i axis)))

to_box_measured : (axis : Axis) (cross a r e f : ℕ) (cs : List Object)
    → measured_by sliver_to_box (to_box_rule (seen_from axis cross a r) (only_of cs)).geometry
    (laids_of (to_box_rule (seen_from axis cross a r) (only_of cs)).children)
    (measured_first (laids_of (to_box_rule (seen_from axis cross a r) (only_of cs)).children)) (seen_from axis cross e f)
    ≡ (to_box_rule (seen_from axis cross e f) (only_of cs)).geometry
to_box_measured axis cross a r e f [] = refl
to_box_measured axis cross a r e f (c ∷ cs) = refl

rule_measured : (l : Look) (n : ℕ) (axis : Axis) (cross a r e f : ℕ) (cs : List Object) → AllMeasured cs
    → let given = sliver_rule l n (seen_from axis cross a r) cs in
    measured_by l given.geometry (laids_of given.children) (measured_first (laids_of given.children)) (seen_from axis cross e f)
    ≡ (sliver_rule l n (seen_from axis cross e f) cs).geometry
rule_measured (sized_box m0 m1) n axis cross a r e f cs all = refl
rule_measured (constrained_box m0 m1 m2 m3) n axis cross a r e f cs all = refl
rule_measured (padding m0 m1 m2 m3) n axis cross a r e f cs all = refl
rule_measured (align m0 m1) n axis cross a r e f cs all = refl
rule_measured (colored_box m0) n axis cross a r e f cs all = refl
rule_measured (text m0 m1) n axis cross a r e f cs all = refl
rule_measured (row m0 m1 m2) n axis cross a r e f cs all = refl
rule_measured (column m0 m1 m2) n axis cross a r e f cs all = refl
rule_measured (wrap m0 m1) n axis cross a r e f cs all = refl
rule_measured (table m0) n axis cross a r e f cs all = refl
rule_measured (stack m0 m1 m2) n axis cross a r e f cs all = refl
rule_measured (flexible m0 m1) n axis cross a r e f cs all = refl
rule_measured (positioned m0 m1 m2 m3 m4 m5) n axis cross a r e f cs all = refl
rule_measured (opacity m0) n axis cross a r e f cs all = refl
rule_measured clip_rect n axis cross a r e f cs all = refl
rule_measured repaint_boundary n axis cross a r e f cs all = refl
rule_measured merge_semantics n axis cross a r e f cs all = refl
rule_measured intrinsic_width n axis cross a r e f cs all = refl
rule_measured intrinsic_height n axis cross a r e f cs all = refl
rule_measured (offstage m0) n axis cross a r e f cs all = refl
rule_measured (ignore_pointer m0) n axis cross a r e f cs all = refl
rule_measured (absorb_pointer m0) n axis cross a r e f cs all = refl
rule_measured (detector m0 m1 m2 m3 m4 m5) n axis cross a r e f cs all = refl
rule_measured (semantics m0 m1 m2) n axis cross a r e f cs all = refl
rule_measured (exclude_semantics m0) n axis cross a r e f cs all = refl
rule_measured (custom_paint m0) n axis cross a r e f cs all = refl
rule_measured (custom_layout m0) n axis cross a r e f cs all = refl
rule_measured (viewport m0) n axis cross a r e f cs all = refl
rule_measured sliver_to_box n axis cross a r e f cs all = to_box_measured axis cross a r e f cs
rule_measured (sliver_padding m0 m1 m2 m3) n axis cross a r e f cs all = padding_measured (insets_of m0 m1 m2 m3) axis cross a r e f cs all
rule_measured (sliver_fixed m0) n axis cross a r e f cs all = refl
rule_measured (sliver_lazy m0) n axis cross a r e f cs all = refl
rule_measured (keep m0) n axis cross a r e f cs all = refl
rule_measured (inherit m0 m1) n axis cross a r e f cs all = refl
rule_measured (component m0 m1 m2) n axis cross a r e f cs all = refl

mutual
  unfolding object objects

  pub object_measured : (s : Setting) (r : Render) → Measured (object s r)
  object_measured s (render n l d o c rs) =
      record { same = λ axis cross a r e f. rule_measured l c axis cross a r e f (objects s rs) (objects_measured s rs) }

  pub objects_measured : (s : Setting) (rs : Renders) → AllMeasured (objects s rs)
  objects_measured s no_renders = tt
  objects_measured s (more_renders r rs) = (object_measured s r, objects_measured s rs)

-- the same of any two views with one axis and one cross extent
pub measures_tell : (s : Setting) (r : Render) (b v : SliverBounds) → b.axis ≡ v.axis → b.cross ≡ v.cross
    → measured ((object s r).in_view b) v ≡ geometry_in ((object s r).in_view v)
measures_tell s r b v p q =
    ap (λ (x : Axis). measured ((object s r).in_view (seen_from x b.cross b.offset b.remaining)) v) p
    ∙ ap (λ (x : ℕ). measured ((object s r).in_view (seen_from v.axis x b.offset b.remaining)) v) q
    ∙ (object_measured s r).same v.axis v.cross b.offset b.remaining v.offset v.remaining

pub rule_asked : (s : Setting) (l : Look) (o : ℕ) (b : Bounds) (cs : List Object) → AllMeasured cs → asked_box s l o b cs ≡ box_rule s l o b cs
rule_asked s (sized_box m0 m1) o b cs all = single_asked (within_own (sized_bounds m0 m1) b) cs
rule_asked s (constrained_box m0 m1 m2 m3) o b cs all = single_asked (within_own (constrained_bounds m0 m1 m2 m3) b) cs
rule_asked s (padding m0 m1 m2 m3) o b cs all = single_asked (padded_box (insets_of m0 m1 m2 m3) b) cs
rule_asked s (align m0 m1) o b cs all = single_asked (aligned_box m0 m1 b) cs
rule_asked s (colored_box m0) o b cs all = single_asked (proxy b) cs
rule_asked s (text m0 m1) o b cs all = refl
rule_asked s (row m0 m1 m2) o b cs all = flex_asked Horizontal m0 m1 m2 b cs
rule_asked s (column m0 m1 m2) o b cs all = flex_asked Vertical m0 m1 m2 b cs
rule_asked s (wrap m0 m1) o b cs all = ap (λ (ls : List Laid). wrap_done m0 m1 b ls) (every_asked (loose b.max_w Unbounded) cs)
rule_asked s (table m0) o b cs all = ap (λ (ls : List Laid). table_done (columns_of m0) b ls) (cells_asked (columns_of m0) 0 cs)
rule_asked s (stack m0 m1 m2) o b cs all = stack_asked m0 m1 m2 b cs
rule_asked s (flexible m0 m1) o b cs all = refl
rule_asked s (positioned m0 m1 m2 m3 m4 m5) o b cs all = refl
rule_asked s (opacity m0) o b cs all = single_asked (proxy b) cs
rule_asked s clip_rect o b cs all = single_asked (proxy b) cs
rule_asked s repaint_boundary o b cs all = single_asked (proxy b) cs
rule_asked s merge_semantics o b cs all = single_asked (proxy b) cs
rule_asked s intrinsic_width o b cs all = passing_asked (as_wide b 0) (as_wide b (child_extent Horizontal b.max_h (only_of cs))) b cs
rule_asked s intrinsic_height o b cs all = passing_asked (as_high b 0) (as_high b (child_extent Vertical b.max_w (only_of cs))) b cs
rule_asked s (offstage m0) o b cs all = single_asked (offstage_box m0 b) cs
rule_asked s (ignore_pointer m0) o b cs all = single_asked (proxy b) cs
rule_asked s (absorb_pointer m0) o b cs all = single_asked (proxy b) cs
rule_asked s (detector m0 m1 m2 m3 m4 m5) o b cs all = single_asked (proxy b) cs
rule_asked s (semantics m0 m1 m2) o b cs all = single_asked (proxy b) cs
rule_asked s (exclude_semantics m0) o b cs all = single_asked (proxy b) cs
rule_asked s (custom_paint m0) o b cs all = single_asked (painted_box (meaning_of s.delegates m0) b) cs
rule_asked s (custom_layout m0) o b cs all = single_asked (delegated_box (meaning_of s.delegates m0) b) cs
rule_asked s (viewport m0) o b cs all = view_asked m0 o b cs all
rule_asked s sliver_to_box o b cs all = refl
rule_asked s (sliver_padding m0 m1 m2 m3) o b cs all = refl
rule_asked s (sliver_fixed m0) o b cs all = refl
rule_asked s (sliver_lazy m0) o b cs all = refl
rule_asked s (keep m0) o b cs all = refl
rule_asked s (inherit m0 m1) o b cs all = refl
rule_asked s (component m0 m1 m2) o b cs all = refl

sliver_asked : (s : Setting) (number : ℕ) (l : Look) (n : ℕ) (b : SliverBounds) (kept : Option Laid) (cs : List Object) → IsKeptFrom s number l n b kept cs
    → asked_sliver l n b kept cs ≡ sliver_rule l n b cs
sliver_asked s number (sized_box m0 m1) n b kept cs is = refl
sliver_asked s number (constrained_box m0 m1 m2 m3) n b kept cs is = refl
sliver_asked s number (padding m0 m1 m2 m3) n b kept cs is = refl
sliver_asked s number (align m0 m1) n b kept cs is = refl
sliver_asked s number (colored_box m0) n b kept cs is = refl
sliver_asked s number (text m0 m1) n b kept cs is = refl
sliver_asked s number (row m0 m1 m2) n b kept cs is = refl
sliver_asked s number (column m0 m1 m2) n b kept cs is = refl
sliver_asked s number (wrap m0 m1) n b kept cs is = refl
sliver_asked s number (table m0) n b kept cs is = refl
sliver_asked s number (stack m0 m1 m2) n b kept cs is = refl
sliver_asked s number (flexible m0 m1) n b kept cs is = refl
sliver_asked s number (positioned m0 m1 m2 m3 m4 m5) n b kept cs is = refl
sliver_asked s number (opacity m0) n b kept cs is = refl
sliver_asked s number clip_rect n b kept cs is = refl
sliver_asked s number repaint_boundary n b kept cs is = refl
sliver_asked s number merge_semantics n b kept cs is = refl
sliver_asked s number intrinsic_width n b kept cs is = refl
sliver_asked s number intrinsic_height n b kept cs is = refl
sliver_asked s number (offstage m0) n b kept cs is = refl
sliver_asked s number (ignore_pointer m0) n b kept cs is = refl
sliver_asked s number (absorb_pointer m0) n b kept cs is = refl
sliver_asked s number (detector m0 m1 m2 m3 m4 m5) n b kept cs is = refl
sliver_asked s number (semantics m0 m1 m2) n b kept cs is = refl
sliver_asked s number (exclude_semantics m0) n b kept cs is = refl
sliver_asked s number (custom_paint m0) n b kept cs is = refl
sliver_asked s number (custom_layout m0) n b kept cs is = refl
sliver_asked s number (viewport m0) n b kept cs is = refl
sliver_asked s number sliver_to_box n b kept cs is = to_box_asked s number n b kept cs is
sliver_asked s number (sliver_padding m0 m1 m2 m3) n b kept cs is = padding_asked m0 m1 m2 m3 n b kept cs
sliver_asked s number (sliver_fixed m0) n b kept cs is =
    ap (λ (slots : List (Option Laid)). list_made m0 (length (datas cs)) b (counted 0 (datas cs)) (round (items_first b m0 (window_of b m0 (length (datas cs))) (counted 0 (datas cs))) slots cs)) (none_kept cs)
    ∙ fixed_asked m0 b cs
sliver_asked s number (sliver_lazy m0) n b kept cs is =
    ap (λ (slots : List (Option Laid)). list_made m0 n b (map (λ (d : ParentData). d.index) (datas cs))
    (round (items_first b m0 (window_of b m0 n) (map (λ (d : ParentData). d.index) (datas cs))) slots cs)) (none_kept cs)
    ∙ lazy_asked m0 n b cs
sliver_asked s number (keep m0) n b kept cs is = refl
sliver_asked s number (inherit m0 m1) n b kept cs is = refl
sliver_asked s number (component m0 m1 m2) n b kept cs is = refl

pub box_rounds : (s : Setting) (l : Look) (o : ℕ) (b : Bounds) (rs : Renders) → asked_box s l o b (objects s rs) ≡ box_rule s l o b (objects s rs)
box_rounds s l o b rs = rule_asked s l o b (objects s rs) (objects_measured s rs)

-- what an object gave where nothing is seen is what its rule gives there
kept_from : (s : Setting) (number : ℕ) (l : Look) (d : ParentData) (scroll count : ℕ) (rs : Renders) (b : SliverBounds) (kept : Option Laid)
    → IsKept b kept (object s (render number l d scroll count rs)) → IsKeptFrom s number l count b kept (objects s rs)
unfolding object
kept_from s number l d scroll count rs b None is = tt
kept_from s number l d scroll count rs b (Some x) is = is

pub sliver_round : (s : Setting) (number : ℕ) (l : Look) (d : ParentData) (scroll count : ℕ) (rs : Renders) (b : SliverBounds) (kept : Option Laid)
    → IsKept b kept (object s (render number l d scroll count rs)) → asked_sliver l count b kept (objects s rs) ≡ sliver_rule l count b (objects s rs)
sliver_round s number l d scroll count rs b kept is =
    sliver_asked s number l count b kept (objects s rs) (kept_from s number l d scroll count rs b kept is)
