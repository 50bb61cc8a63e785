-- What a layout makes of a tree with other offsets: sizes and extents are the same in any case, and all of it is where the
-- Viewports stand scrolled as the layout left them.
use Rattle.std.proofs.Common.{◌≡◌, refl, ap, ◌∙◌, ℕ, suc, ◌-◌, min, Bool, true, false, cond, Option, Some, None, List, [], ◌∷◌, map, length, arith, if◌then◌else◌}
use Rattle.std.specs.Prelude.{ℤ, pos}
use Rattle.std.specs.List.{filter}
use Rattle.fx_geom.specs.declared.boxes.Bounds.{Bounds}
use Rattle.fx_geom.specs.declared.lengths.Len.{Len}
use Rattle.fx_geom.specs.declared.lengths.Len.TheVariants.{Finite, Unbounded}
use Rattle.fx_geom.specs.declared.shapes.Axis.{Axis}
use Rattle.fx_geom.specs.declared.shapes.Axis.TheVariants.{Horizontal, Vertical}
use Rattle.fx_geom.specs.declared.shapes.Insets.{Insets}
use Rattle.fx_geom.specs.declared.shapes.Offset.{Offset}
use Rattle.fx_geom.specs.declared.shapes.Size.{Size}
use Rattle.fx_geom.specs.declared.words.CrossAlign.{CrossAlign}
use Rattle.fx_geom.specs.declared.words.MainAlign.{MainAlign}
use Rattle.fx_geom.specs.declared.words.StackFit.{StackFit}
use Rattle.fx_geom.specs.Along.{most_along, least_along, offset_along}
use Rattle.fx_geom.specs.Bounds.{loose, constrain}
use Rattle.fx_geom.specs.Insets.{other_of, extent_of, along}
use Rattle.fx_geom.specs.Len.{clamped, less, length_sum, limit_of, stopped, total_of}
use Rattle.sliver_layout.specs.declared.protocol.Geometry.{Geometry}
use Rattle.sliver_layout.specs.declared.protocol.SliverBounds.{SliverBounds}
use Rattle.sliver_layout.specs.declared.protocol.Walk.{Walk}
use Rattle.sliver_layout.specs.declared.protocol.Window.{Window}
use Rattle.sliver_layout.specs.Lists.{window_of, list_geometry_of}
use Rattle.sliver_layout.specs.Slivers.{box_geometry_of, box_place_of, padded_of, padding_of, corrected_of, walk_from, view_of, walk_past}
use Rattle.delegates.specs.Table.{meaning_of}
use Rattle.wrap_table.specs.Stretches.{spaced_extent}
use Rattle.wrap_table.specs.Places.{wrap_places_of, wrap_size_of, table_places_of, table_size_of}
use Rattle.widget_model.specs.declared.words.MainSize.{MainSize}
use Rattle.widget_model.specs.Look.{Look, sized_box, constrained_box, padding, align, colored_box, text, row, column, wrap, table, stack, flexible, positioned, opacity, clip_rect, repaint_boundary, merge_semantics, intrinsic_width, intrinsic_height, offstage, ignore_pointer, absorb_pointer, detector, semantics, exclude_semantics, custom_paint, custom_layout, viewport, sliver_to_box, sliver_padding, sliver_fixed, sliver_lazy, keep, inherit, component}
use Rattle.plain_tree.specs.declared.laid.Notes.{Notes}
use Rattle.plain_tree.specs.declared.render.ParentData.{ParentData}
use Rattle.plain_tree.specs.Laid.{Laid, laid, Laids, no_laids, more_laids, laids_of, Stood}
use Rattle.plain_tree.specs.Offsets.{or_before, rescrolled}
use Rattle.plain_tree.specs.Render.{Render, render, Renders, no_renders, more_renders}
use Rattle.plain_tree.specs.RenderRole.{render_role_of}
use Rattle.layout_form.specs.Object.{Setting, Object, Done, Passed, no_notes, sized, size_in, geometry_in, sizes_in, extents_of, placed, placed_at, each_in, datas, only_of}
use Rattle.layout_form.specs.Single.{Around, single, proxy, passing, within_own, sized_bounds, constrained_bounds, padded_box, aligned_box, insets_of, offstage_box, as_wide, as_high, painted_box, delegated_box}
use Rattle.layout_form.specs.FlexRule.{is_rigid, unshared, flex_bounds, fixed_extent, asks_unbounded, flex_size, flex_places, flex_done, flex_rule}
use Rattle.layout_form.specs.StackRule.{position_of, is_free, free_bounds, free_sizes, stack_size, stack_child, stack_offsets, stack_rule}
use Rattle.layout_form.specs.WrapTable.{heights_of, wrap_rule, columns_of, column_at, cell_bounds, cells_from, table_rule}
use Rattle.layout_form.specs.SliverRule.{view_size, is_endless, unseen, scroll_total, walked, viewport_rule, box_bounds, to_box_rule, padded_place, padding_rule, is_among, item_in, items_in, list_rule, counted, fixed_rule, lazy_rule}
use Rattle.layout_form.specs.Intrinsic.{child_extent, child_extents, own_extent, padded_extent, hidden_extent, stack_liked, stack_extent, flex_liked, flex_across, flex_extent, wrapped_child, wrap_extent, cell_heights, table_extent}
use Rattle.layout_form.specs.Layout.{box_rule, sliver_rule, intrinsic_rule, laid_box, laid_sliver, object, objects}
use Rattle.layout_form.specs.Corrected.{render_scrolled_by, renders_scrolled_by}

-- ---- what is asked of the offsets

-- where there is an offset for a laid Viewport, it was left there
abbrev mutual
  pub Tells : (ℕ → Option ℕ) → Laid → Type 0
  Tells f (laid n l facts ls) = (rescrolled (render_role_of l) (f n) facts.scrolled ≡ facts.scrolled) × AllTell f ls

  pub AllTell : (ℕ → Option ℕ) → Laids → Type 0
  AllTell f no_laids = Unit {0}
  AllTell f (more_laids at l ls) = Tells f l × AllTell f ls

-- an object and that of the same node with other offsets
pub record Like (f : ℕ → Option ℕ) (c d : Object) : Type 0 where
  pub told : d.parent_data ≡ c.parent_data
  pub greatest : (axis : Axis) (across : Len) → d.greatest axis across ≡ c.greatest axis across
  pub size : (b : Bounds) → size_in (d.in_bounds b) ≡ size_in (c.in_bounds b)
  pub geometry : (b : SliverBounds) → geometry_in (d.in_view b) ≡ geometry_in (c.in_view b)
  pub boxes : (b : Bounds) → Tells f (c.in_bounds b) → d.in_bounds b ≡ c.in_bounds b
  pub views : (b : SliverBounds) → Tells f (c.in_view b) → d.in_view b ≡ c.in_view b

abbrev pub AllLike : (ℕ → Option ℕ) → List Object → List Object → Type 0
AllLike f [] [] = Unit {0}
AllLike f [] (d ∷ ds) = ⊥
AllLike f (c ∷ cs) [] = ⊥
AllLike f (c ∷ cs) (d ∷ ds) = Like f c d × AllLike f cs ds

-- what two rules give: one size, and all the same where the Viewport itself stays and those below are told
pub record Settles (f : ℕ → Option ℕ) (move : ℕ → ℕ) (done again : Done) : Type 0 where
  pub size : again.size ≡ done.size
  pub whole : move done.scrolled ≡ done.scrolled → AllTell f (laids_of done.children) → again ≡ done

pub record Repeats (f : ℕ → Option ℕ) (done again : Passed) : Type 0 where
  pub geometry : again.geometry ≡ done.geometry
  pub whole : AllTell f (laids_of done.children) → again ≡ done

settles_after : (f : ℕ → Option ℕ) (move : ℕ → ℕ) (done near far : Done) → far ≡ near → Settles f move done near → Settles f move done far
settles_after f move done near far e h =
    record { size = ap (λ (x : Done). x.size) e ∙ h.size; whole = λ still tells. e ∙ h.whole still tells }

-- ---- what objects that are alike share

datas_same : (f : ℕ → Option ℕ) (cs ds : List Object) → AllLike f cs ds → datas ds ≡ datas cs
datas_same f [] [] all = refl
datas_same f [] (d ∷ ds) all = absurd all
datas_same f (c ∷ cs) [] all = absurd all
datas_same f (c ∷ cs) (d ∷ ds) all = λ at. all.0.told at ∷ datas_same f cs ds all.1 at

filtered_one : (f : ℕ → Option ℕ) (t u : Bool) (c d : Object) (cs ds : List Object) → u ≡ t → Like f c d → AllLike f cs ds
    → AllLike f (cond t (c ∷ cs) cs) (cond u (d ∷ ds) ds)
filtered_one f true true c d cs ds e one all = (one, all)
filtered_one f false false c d cs ds e one all = all
filtered_one f true false c d cs ds e one all = cc
filtered_one f false true c d cs ds e one all = cc

filtered : (f : ℕ → Option ℕ) (test : ParentData → Bool) (cs ds : List Object) → AllLike f cs ds
    → AllLike f (filter (λ (c : Object). test c.parent_data) cs) (filter (λ (c : Object). test c.parent_data) ds)
filtered f test [] [] all = tt
filtered f test [] (d ∷ ds) all = absurd all
filtered f test (c ∷ cs) [] all = absurd all
filtered f test (c ∷ cs) (d ∷ ds) all =
    filtered_one f (test c.parent_data) (test d.parent_data) c d (filter (λ (c : Object). test c.parent_data) cs) (filter (λ (c : Object). test c.parent_data) ds)
    (ap test all.0.told) all.0 (filtered f test cs ds all.1)

sizes_same : (f : ℕ → Option ℕ) (b : Bounds) (cs ds : List Object) → AllLike f cs ds
    → map (λ (c : Object). size_in (c.in_bounds b)) ds ≡ map (λ (c : Object). size_in (c.in_bounds b)) cs
sizes_same f b [] [] all = refl
sizes_same f b [] (d ∷ ds) all = absurd all
sizes_same f b (c ∷ cs) [] all = absurd all
sizes_same f b (c ∷ cs) (d ∷ ds) all = λ at. all.0.size b at ∷ sizes_same f b cs ds all.1 at

scrolls_same : (f : ℕ → Option ℕ) (b : SliverBounds) (cs ds : List Object) → AllLike f cs ds
    → map (λ (c : Object). (geometry_in (c.in_view b)).scroll) ds ≡ map (λ (c : Object). (geometry_in (c.in_view b)).scroll) cs
scrolls_same f b [] [] all = refl
scrolls_same f b [] (d ∷ ds) all = absurd all
scrolls_same f b (c ∷ cs) [] all = absurd all
scrolls_same f b (c ∷ cs) (d ∷ ds) all = λ at. (all.0.geometry b at).scroll ∷ scrolls_same f b cs ds all.1 at

counted_same : (f : ℕ → Option ℕ) (i : ℕ) (cs ds : List Object) → AllLike f cs ds → counted i ds ≡ counted i cs
counted_same f i [] [] all = refl
counted_same f i [] (d ∷ ds) all = absurd all
counted_same f i (c ∷ cs) [] all = absurd all
counted_same f i (c ∷ cs) (d ∷ ds) all = ap (λ (is : List ℕ). i ∷ is) (counted_same f (suc i) cs ds all.1)

length_same : (f : ℕ → Option ℕ) (cs ds : List Object) → AllLike f cs ds → length ds ≡ length cs
length_same f [] [] all = refl
length_same f [] (d ∷ ds) all = absurd all
length_same f (c ∷ cs) [] all = absurd all
length_same f (c ∷ cs) (d ∷ ds) all = ap suc (length_same f cs ds all.1)

indices_same : (f : ℕ → Option ℕ) (cs ds : List Object) → AllLike f cs ds
    → map (λ (c : Object). c.parent_data.index) ds ≡ map (λ (c : Object). c.parent_data.index) cs
indices_same f [] [] all = refl
indices_same f [] (d ∷ ds) all = absurd all
indices_same f (c ∷ cs) [] all = absurd all
indices_same f (c ∷ cs) (d ∷ ds) all = λ at. (all.0.told at).index ∷ indices_same f cs ds all.1 at

-- ---- extents that boxes would like

child_same : (f : ℕ → Option ℕ) (axis : Axis) (across : Len) (cs ds : List Object) → AllLike f cs ds
    → child_extent axis across (only_of ds) ≡ child_extent axis across (only_of cs)
child_same f axis across [] [] all = refl
child_same f axis across [] (d ∷ ds) all = absurd all
child_same f axis across (c ∷ cs) [] all = absurd all
child_same f axis across (c ∷ cs) (d ∷ ds) all = all.0.greatest axis across

extents_same : (f : ℕ → Option ℕ) (axis : Axis) (across : Len) (cs ds : List Object) → AllLike f cs ds
    → child_extents axis across ds ≡ child_extents axis across cs
extents_same f axis across [] [] all = refl
extents_same f axis across [] (d ∷ ds) all = absurd all
extents_same f axis across (c ∷ cs) [] all = absurd all
extents_same f axis across (c ∷ cs) (d ∷ ds) all = λ at. all.0.greatest axis across at ∷ extents_same f axis across cs ds all.1 at

flex_same : (f : ℕ → Option ℕ) (main axis : Axis) (across : Len) (cs ds : List Object) → AllLike f cs ds
    → flex_extent main axis across ds ≡ flex_extent main axis across cs
flex_same f main axis across cs ds all = λ at. flex_liked main axis (datas_same f cs ds all at) (extents_same f axis (flex_across main axis across) cs ds all at)

-- a child of a Wrap, at the width that it would like
abbrev wrapped_at : Len → Object → ℕ → Size
wrapped_at across c width = record { w = min width (limit_of across); h = c.greatest Vertical (Finite (min width (limit_of across))) }

wrapped_one : (f : ℕ → Option ℕ) (across : Len) (c d : Object) → Like f c d → wrapped_child across d ≡ wrapped_child across c
wrapped_one f across c d one =
    let width = one.greatest Horizontal Unbounded in
    ap (wrapped_at across d) width
    ∙ ap (λ (h : ℕ). record { w = min (c.greatest Horizontal Unbounded) (limit_of across); h = h })
    (one.greatest Vertical (Finite (min (c.greatest Horizontal Unbounded) (limit_of across))))

wrapped_same : (f : ℕ → Option ℕ) (across : Len) (cs ds : List Object) → AllLike f cs ds → map (wrapped_child across) ds ≡ map (wrapped_child across) cs
wrapped_same f across [] [] all = refl
wrapped_same f across [] (d ∷ ds) all = absurd all
wrapped_same f across (c ∷ cs) [] all = absurd all
wrapped_same f across (c ∷ cs) (d ∷ ds) all = λ at. wrapped_one f across c d all.0 at ∷ wrapped_same f across cs ds all.1 at

wrap_same : (f : ℕ → Option ℕ) (gap run_gap : ℕ) (axis : Axis) (across : Len) (cs ds : List Object) → AllLike f cs ds
    → wrap_extent gap run_gap axis across ds ≡ wrap_extent gap run_gap axis across cs
wrap_same f gap run_gap Horizontal across cs ds all = ap (λ ns. stopped (spaced_extent gap ns)) (extents_same f Horizontal Unbounded cs ds all)
wrap_same f gap run_gap Vertical across cs ds all = ap (λ ss. (wrap_size_of ss across gap run_gap).h) (wrapped_same f across cs ds all)

heights_same : (f : ℕ → Option ℕ) (columns : List ℕ) (i : ℕ) (cs ds : List Object) → AllLike f cs ds → cell_heights columns i ds ≡ cell_heights columns i cs
heights_same f columns i [] [] all = refl
heights_same f columns i [] (d ∷ ds) all = absurd all
heights_same f columns i (c ∷ cs) [] all = absurd all
heights_same f columns i (c ∷ cs) (d ∷ ds) all =
    λ at. all.0.greatest Vertical (Finite (column_at columns i)) at ∷ heights_same f columns (suc i) cs ds all.1 at

table_same : (f : ℕ → Option ℕ) (columns : List ℕ) (axis : Axis) (cs ds : List Object) → AllLike f cs ds → table_extent columns axis ds ≡ table_extent columns axis cs
table_same f columns Horizontal cs ds all = refl
table_same f columns Vertical cs ds all = ap (λ ns. (table_size_of columns ns).h) (heights_same f columns 0 cs ds all)

hidden_same : (f : ℕ → Option ℕ) (hidden : Bool) (axis : Axis) (across : Len) (cs ds : List Object) → AllLike f cs ds
    → hidden_extent hidden axis across (only_of ds) ≡ hidden_extent hidden axis across (only_of cs)
hidden_same f true axis across cs ds all = refl
hidden_same f false axis across cs ds all = child_same f axis across cs ds all

own_same : (f : ℕ → Option ℕ) (own : Bounds) (axis : Axis) (across : Len) (cs ds : List Object) → AllLike f cs ds
    → own_extent own axis across (only_of ds) ≡ own_extent own axis across (only_of cs)
own_same f own axis across cs ds all = ap (clamped (least_along own axis) (most_along own axis)) (child_same f axis across cs ds all)

padded_same : (f : ℕ → Option ℕ) (i : Insets) (axis : Axis) (across : Len) (cs ds : List Object) → AllLike f cs ds
    → padded_extent i axis across (only_of ds) ≡ padded_extent i axis across (only_of cs)
padded_same f i axis across cs ds all =
    ap (length_sum (along i axis)) (child_same f axis (less across (along i (other_of axis))) cs ds all)

stack_extent_same : (f : ℕ → Option ℕ) (axis : Axis) (across : Len) (cs ds : List Object) → AllLike f cs ds
    → stack_extent axis across ds ≡ stack_extent axis across cs
stack_extent_same f axis across cs ds all =
    λ at. stack_liked (datas_same f cs ds all at) (extents_same f axis across cs ds all at)

likes_same : (f : ℕ → Option ℕ) (s : Setting) (l : Look) (axis : Axis) (across : Len) (cs ds : List Object) → AllLike f cs ds
    → intrinsic_rule s l axis across ds ≡ intrinsic_rule s l axis across cs
likes_same f s (sized_box m0 m1) axis across cs ds all = own_same f (sized_bounds m0 m1) axis across cs ds all
likes_same f s (constrained_box m0 m1 m2 m3) axis across cs ds all = own_same f (constrained_bounds m0 m1 m2 m3) axis across cs ds all
likes_same f s (padding m0 m1 m2 m3) axis across cs ds all = padded_same f (insets_of m0 m1 m2 m3) axis across cs ds all
likes_same f s (align m0 m1) axis across cs ds all = child_same f axis across cs ds all
likes_same f s (colored_box m0) axis across cs ds all = child_same f axis across cs ds all
likes_same f s (text m0 m1) axis across cs ds all = refl
likes_same f s (row m0 m1 m2) axis across cs ds all = flex_same f Horizontal axis across cs ds all
likes_same f s (column m0 m1 m2) axis across cs ds all = flex_same f Vertical axis across cs ds all
likes_same f s (wrap m0 m1) axis across cs ds all = wrap_same f m0 m1 axis across cs ds all
likes_same f s (table m0) axis across cs ds all = table_same f (columns_of m0) axis cs ds all
likes_same f s (stack m0 m1 m2) axis across cs ds all = stack_extent_same f axis across cs ds all
likes_same f s (flexible m0 m1) axis across cs ds all = child_same f axis across cs ds all
likes_same f s (positioned m0 m1 m2 m3 m4 m5) axis across cs ds all = child_same f axis across cs ds all
likes_same f s (opacity m0) axis across cs ds all = child_same f axis across cs ds all
likes_same f s clip_rect axis across cs ds all = child_same f axis across cs ds all
likes_same f s repaint_boundary axis across cs ds all = child_same f axis across cs ds all
likes_same f s merge_semantics axis across cs ds all = child_same f axis across cs ds all
likes_same f s intrinsic_width axis across cs ds all = child_same f axis across cs ds all
likes_same f s intrinsic_height axis across cs ds all = child_same f axis across cs ds all
likes_same f s (offstage m0) axis across cs ds all = hidden_same f m0 axis across cs ds all
likes_same f s (ignore_pointer m0) axis across cs ds all = child_same f axis across cs ds all
likes_same f s (absorb_pointer m0) axis across cs ds all = child_same f axis across cs ds all
likes_same f s (detector m0 m1 m2 m3 m4 m5) axis across cs ds all = child_same f axis across cs ds all
likes_same f s (semantics m0 m1 m2) axis across cs ds all = child_same f axis across cs ds all
likes_same f s (exclude_semantics m0) axis across cs ds all = child_same f axis across cs ds all
likes_same f s (custom_paint m0) axis across cs ds all = child_same f axis across cs ds all
likes_same f s (custom_layout m0) axis across cs ds all = child_same f axis across cs ds all
likes_same f s (viewport m0) axis across cs ds all = refl
likes_same f s sliver_to_box axis across cs ds all = child_same f axis across cs ds all
likes_same f s (sliver_padding m0 m1 m2 m3) axis across cs ds all = child_same f axis across cs ds all
likes_same f s (sliver_fixed m0) axis across cs ds all = child_same f axis across cs ds all
likes_same f s (sliver_lazy m0) axis across cs ds all = child_same f axis across cs ds all
likes_same f s (keep m0) axis across cs ds all = child_same f axis across cs ds all
likes_same f s (inherit m0 m1) axis across cs ds all = child_same f axis across cs ds all
likes_same f s (component m0 m1 m2) axis across cs ds all = child_same f axis across cs ds all

-- ---- boxes with at most one child

abbrev single_of : Around → Laid → Done
single_of a l = sized (a.size (Some (size_in l))) (placed (a.place (a.size (Some (size_in l))) (size_in l)) l ∷ [])

single_settles : (f : ℕ → Option ℕ) (move : ℕ → ℕ) (a : Around) (cs ds : List Object) → AllLike f cs ds
    → Settles f move (single a (only_of cs)) (single a (only_of ds))
single_settles f move a [] [] all = record { size = refl; whole = λ still tells. refl }
single_settles f move a [] (d ∷ ds) all = absurd all
single_settles f move a (c ∷ cs) [] all = absurd all
single_settles f move a (c ∷ cs) (d ∷ ds) all = record {
  size = ap (λ (z : Size). a.size (Some z)) (all.0.size a.inner);
  whole = λ still tells. ap (single_of a) (all.0.boxes a.inner tells.0);
}

wide_settles : (f : ℕ → Option ℕ) (move : ℕ → ℕ) (b : Bounds) (cs ds : List Object) → AllLike f cs ds
    → let liked = λ (xs : List Object). child_extent Horizontal b.max_h (only_of xs) in
    Settles f move (single (passing (as_wide b (liked cs)) b) (only_of cs)) (single (passing (as_wide b (liked ds)) b) (only_of ds))
wide_settles f move b cs ds all =
    let liked = λ (xs : List Object). child_extent Horizontal b.max_h (only_of xs) in
    settles_after f move (single (passing (as_wide b (liked cs)) b) (only_of cs)) (single (passing (as_wide b (liked cs)) b) (only_of ds))
    (single (passing (as_wide b (liked ds)) b) (only_of ds))
    (ap (λ (n : ℕ). single (passing (as_wide b n) b) (only_of ds)) (child_same f Horizontal b.max_h cs ds all))
    (single_settles f move (passing (as_wide b (liked cs)) b) cs ds all)

high_settles : (f : ℕ → Option ℕ) (move : ℕ → ℕ) (b : Bounds) (cs ds : List Object) → AllLike f cs ds
    → let liked = λ (xs : List Object). child_extent Vertical b.max_w (only_of xs) in
    Settles f move (single (passing (as_high b (liked cs)) b) (only_of cs)) (single (passing (as_high b (liked ds)) b) (only_of ds))
high_settles f move b cs ds all =
    let liked = λ (xs : List Object). child_extent Vertical b.max_w (only_of xs) in
    settles_after f move (single (passing (as_high b (liked cs)) b) (only_of cs)) (single (passing (as_high b (liked cs)) b) (only_of ds))
    (single (passing (as_high b (liked ds)) b) (only_of ds))
    (ap (λ (n : ℕ). single (passing (as_high b n) b) (only_of ds)) (child_same f Vertical b.max_w cs ds all))
    (single_settles f move (passing (as_high b (liked cs)) b) cs ds all)

-- ---- boxes with any number of children

-- laid children of objects that are alike: they have the same sizes, and are the same where those that are placed are told
record Agree (f : ℕ → Option ℕ) (ls ms : List Laid) : Type 0 where
  sizes : sizes_in ms ≡ sizes_in ls
  put : (ats : List Offset) → AllTell f (laids_of (placed_at ats ls)) → placed_at ats ms ≡ placed_at ats ls

none_agree : (f : ℕ → Option ℕ) → Agree f [] []
none_agree f = record { sizes = refl; put = λ ats tells. refl }

put_more : (f : ℕ → Option ℕ) (l m : Laid) (ls ms : List Laid) → (Tells f l → m ≡ l) → Agree f ls ms
    → (ats : List Offset) → AllTell f (laids_of (placed_at ats (l ∷ ls))) → placed_at ats (m ∷ ms) ≡ placed_at ats (l ∷ ls)
put_more f l m ls ms same all [] tells = refl
put_more f l m ls ms same all (o ∷ os) tells = λ at. placed o (same tells.0 at) ∷ all.put os tells.1 at

more_agree : (f : ℕ → Option ℕ) (l m : Laid) (ls ms : List Laid) → size_in m ≡ size_in l → (Tells f l → m ≡ l) → Agree f ls ms → Agree f (l ∷ ls) (m ∷ ms)
more_agree f l m ls ms size same all =
    record { sizes = λ at. size at ∷ all.sizes at; put = put_more f l m ls ms same all }

each_agree : (f : ℕ → Option ℕ) (bs : List Bounds) (cs ds : List Object) → AllLike f cs ds → Agree f (each_in bs cs) (each_in bs ds)
each_agree f [] cs ds all = none_agree f
each_agree f (b ∷ bs) [] [] all = none_agree f
each_agree f (b ∷ bs) [] (d ∷ ds) all = absurd all
each_agree f (b ∷ bs) (c ∷ cs) [] all = absurd all
each_agree f (b ∷ bs) (c ∷ cs) (d ∷ ds) all =
    more_agree f (c.in_bounds b) (d.in_bounds b) (each_in bs cs) (each_in bs ds) (all.0.size b) (all.0.boxes b) (each_agree f bs cs ds all.1)

map_agree : (f : ℕ → Option ℕ) (b : Bounds) (cs ds : List Object) → AllLike f cs ds
    → Agree f (map (λ (c : Object). c.in_bounds b) cs) (map (λ (c : Object). c.in_bounds b) ds)
map_agree f b [] [] all = none_agree f
map_agree f b [] (d ∷ ds) all = absurd all
map_agree f b (c ∷ cs) [] all = absurd all
map_agree f b (c ∷ cs) (d ∷ ds) all =
    more_agree f (c.in_bounds b) (d.in_bounds b) (map (λ (c : Object). c.in_bounds b) cs) (map (λ (c : Object). c.in_bounds b) ds)
    (all.0.size b) (all.0.boxes b) (map_agree f b cs ds all.1)

cells_agree : (f : ℕ → Option ℕ) (columns : List ℕ) (i : ℕ) (cs ds : List Object) → AllLike f cs ds
    → Agree f (cells_from columns i cs) (cells_from columns i ds)
cells_agree f columns i [] [] all = none_agree f
cells_agree f columns i [] (d ∷ ds) all = absurd all
cells_agree f columns i (c ∷ cs) [] all = absurd all
cells_agree f columns i (c ∷ cs) (d ∷ ds) all =
    let b = cell_bounds (column_at columns i) in
    more_agree f (c.in_bounds b) (d.in_bounds b) (cells_from columns (suc i) cs) (cells_from columns (suc i) ds)
    (all.0.size b) (all.0.boxes b) (cells_agree f columns (suc i) cs ds all.1)

-- a box whose size, notes and places go by the sizes of its children
abbrev made_of : (List Size → Size) → (List Size → Notes) → (List Size → List Offset) → List Laid → Done
made_of size notes places ls =
    record { size = size (sizes_in ls); notes = notes (sizes_in ls); scrolled = 0; children = placed_at (places (sizes_in ls)) ls }

made_settles : (f : ℕ → Option ℕ) (move : ℕ → ℕ) (size : List Size → Size) (notes : List Size → Notes) (places : List Size → List Offset) (ls ms : List Laid)
    → Agree f ls ms → Settles f move (made_of size notes places ls) (made_of size notes places ms)
made_settles f move size notes places ls ms agree = record {
  size = ap size agree.sizes;
  whole = λ still tells.
      ap (λ (ss : List Size). record { size = size ss; notes = notes ss; scrolled = 0; children = placed_at (places ss) ms }) agree.sizes
      ∙ ap (λ (xs : List Stood). record { size = size (sizes_in ls); notes = notes (sizes_in ls); scrolled = 0; children = xs }) (agree.put (places (sizes_in ls)) tells);
}

-- Row and Column, by what the children were told and by what those with factor 0 take
abbrev flex_with : Axis → MainAlign → CrossAlign → MainSize → Bounds → ℕ → List ParentData → List Object → Done
flex_with axis main cross size b fixed told cs =
    flex_done axis main cross size b (asks_unbounded (most_along b axis) told) (each_in (flex_bounds axis cross b (most_along b axis) fixed told) cs)

flex_settles : (f : ℕ → Option ℕ) (move : ℕ → ℕ) (axis : Axis) (main : MainAlign) (cross : CrossAlign) (size : MainSize) (b : Bounds) (cs ds : List Object)
    → AllLike f cs ds → Settles f move (flex_rule axis main cross size b cs) (flex_rule axis main cross size b ds)
flex_settles f move axis main cross size b cs ds all =
    let fixed : fixed_extent axis cross b ds ≡ fixed_extent axis cross b cs =
    ap (λ ss. total_of (extents_of axis ss))
    (sizes_same f (unshared axis cross b) (filter (λ (c : Object). is_rigid c.parent_data) cs) (filter (λ (c : Object). is_rigid c.parent_data) ds) (filtered f is_rigid cs ds all)) in
    let told = datas_same f cs ds all in
    let bounds = flex_bounds axis cross b (most_along b axis) (fixed_extent axis cross b cs) (datas cs) in
    settles_after f move (flex_rule axis main cross size b cs) (flex_with axis main cross size b (fixed_extent axis cross b cs) (datas cs) ds) (flex_rule axis main cross size b ds)
    (λ at. flex_with axis main cross size b (fixed at) (told at) ds)
    (made_settles f move (flex_size axis size b)
    (λ ss. record { overflow = total_of (extents_of axis ss) - extent_of (flex_size axis size b ss) axis; unbounded = asks_unbounded (most_along b axis) (datas cs) })
    (λ ss. flex_places axis main cross (flex_size axis size b ss) ss) (each_in bounds cs) (each_in bounds ds) (each_agree f bounds cs ds all))

-- Stack, by its size and by what the children were told
abbrev stack_with : ℤ → ℤ → Bounds → Size → List ParentData → List Object → Done
stack_with ax ay inner size told cs =
    sized size (placed_at (stack_offsets ax ay size told (sizes_in (each_in (map (λ (d : ParentData). stack_child inner size (position_of d.placed)) told) cs)))
    (each_in (map (λ (d : ParentData). stack_child inner size (position_of d.placed)) told) cs))

stack_settles : (f : ℕ → Option ℕ) (move : ℕ → ℕ) (ax ay : ℤ) (fit : StackFit) (b : Bounds) (cs ds : List Object) → AllLike f cs ds
    → Settles f move (stack_rule ax ay fit b cs) (stack_rule ax ay fit b ds)
stack_settles f move ax ay fit b cs ds all =
    let inner = free_bounds fit b in
    let size = stack_size b (free_sizes inner cs) in
    let bounds = map (λ (d : ParentData). stack_child inner size (position_of d.placed)) (datas cs) in
    let free : free_sizes inner ds ≡ free_sizes inner cs =
    sizes_same f inner (filter (λ (c : Object). is_free c.parent_data) cs) (filter (λ (c : Object). is_free c.parent_data) ds) (filtered f is_free cs ds all) in
    let told = datas_same f cs ds all in
    settles_after f move (stack_rule ax ay fit b cs) (stack_with ax ay inner size (datas cs) ds) (stack_rule ax ay fit b ds)
    (λ at. stack_with ax ay inner (stack_size b (free at)) (told at) ds)
    (made_settles f move (λ ss. size) (λ ss. no_notes) (stack_offsets ax ay size (datas cs)) (each_in bounds cs) (each_in bounds ds) (each_agree f bounds cs ds all))

wrap_settles : (f : ℕ → Option ℕ) (move : ℕ → ℕ) (gap run_gap : ℕ) (b : Bounds) (cs ds : List Object) → AllLike f cs ds
    → Settles f move (wrap_rule gap run_gap b cs) (wrap_rule gap run_gap b ds)
wrap_settles f move gap run_gap b cs ds all =
    let inner = loose b.max_w Unbounded in
    made_settles f move (λ ss. constrain b (wrap_size_of ss b.max_w gap run_gap)) (λ ss. no_notes) (λ ss. wrap_places_of ss b.max_w gap run_gap)
    (map (λ (c : Object). c.in_bounds inner) cs) (map (λ (c : Object). c.in_bounds inner) ds) (map_agree f inner cs ds all)

table_settles : (f : ℕ → Option ℕ) (move : ℕ → ℕ) (widths : List ℤ) (b : Bounds) (cs ds : List Object) → AllLike f cs ds
    → Settles f move (table_rule widths b cs) (table_rule widths b ds)
table_settles f move widths b cs ds all =
    let columns = columns_of widths in
    made_settles f move (λ ss. constrain b (table_size_of columns (heights_of ss))) (λ ss. no_notes) (λ ss. table_places_of columns (heights_of ss))
    (cells_from columns 0 cs) (cells_from columns 0 ds) (cells_agree f columns 0 cs ds all)

-- ---- Viewport

walked_same : (f : ℕ → Option ℕ) (axis : Axis) (main cross : ℕ) (walk : Walk) (cs ds : List Object) → AllLike f cs ds
    → AllTell f (laids_of (walked axis main cross walk cs)) → walked axis main cross walk ds ≡ walked axis main cross walk cs
walked_same f axis main cross walk [] [] all tells = refl
walked_same f axis main cross walk [] (d ∷ ds) all tells = absurd all
walked_same f axis main cross walk (c ∷ cs) [] all tells = absurd all
walked_same f axis main cross walk (c ∷ cs) (d ∷ ds) all tells =
    let v = view_of axis main cross walk in
    ap (λ (l : Laid). placed (offset_along axis (pos walk.at) (pos 0)) l ∷ walked axis main cross (walk_past walk (geometry_in l)) ds) (all.0.views v tells.0)
    ∙ ap (λ (xs : List Stood). placed (offset_along axis (pos walk.at) (pos 0)) (c.in_view v) ∷ xs)
    (walked_same f axis main cross (walk_past walk (geometry_in (c.in_view v))) cs ds all.1 tells.1)

-- an offset that was corrected isn't corrected again
start_same : (p : Option ℕ) (o total main : ℕ) → or_before p (corrected_of o total main) ≡ corrected_of o total main
    → corrected_of (or_before p o) total main ≡ corrected_of o total main
start_same None o total main still = refl
start_same (Some x) o total main still = ap (λ (y : ℕ). corrected_of y total main) still ∙ omega arith

-- a Viewport that stands scrolled so far
abbrev standing : Axis → Bounds → ℕ → List Object → Done
standing axis b start cs = record {
  size = view_size b;
  notes = record { overflow = 0; unbounded = is_endless b };
  scrolled = start;
  children = walked axis (extent_of (view_size b) axis) (extent_of (view_size b) (other_of axis)) (walk_from start) cs;
}

viewport_settles : (f : ℕ → Option ℕ) (p : Option ℕ) (axis : Axis) (o : ℕ) (b : Bounds) (cs ds : List Object) → AllLike f cs ds
    → Settles f (or_before p) (viewport_rule axis o b cs) (viewport_rule axis (or_before p o) b ds)
viewport_settles f p axis o b cs ds all =
    let main = extent_of (view_size b) axis in
    let cross = extent_of (view_size b) (other_of axis) in
    let start = corrected_of o (scroll_total axis cross cs) main in
    let total : scroll_total axis cross ds ≡ scroll_total axis cross cs = ap total_of (scrolls_same f (unseen axis cross) cs ds all) in
    record {
      size = refl;
      whole = λ still tells.
          ap (λ (n : ℕ). standing axis b n ds)
          (ap (λ (t : ℕ). corrected_of (or_before p o) t main) total ∙ start_same p o (scroll_total axis cross cs) main still)
          ∙ ap (λ (xs : List Stood). record { size = view_size b; notes = record { overflow = 0; unbounded = is_endless b }; scrolled = start; children = xs })
          (walked_same f axis main cross (walk_from start) cs ds all tells);
    }

rule_settles : (f : ℕ → Option ℕ) (p : Option ℕ) (s : Setting) (l : Look) (o : ℕ) (b : Bounds) (cs ds : List Object) → AllLike f cs ds
    → Settles f (rescrolled (render_role_of l) p) (box_rule s l o b cs) (box_rule s l (rescrolled (render_role_of l) p o) b ds)
rule_settles f p s (sized_box m0 m1) o b cs ds all = single_settles f _ (within_own (sized_bounds m0 m1) b) cs ds all
rule_settles f p s (constrained_box m0 m1 m2 m3) o b cs ds all = single_settles f _ (within_own (constrained_bounds m0 m1 m2 m3) b) cs ds all
rule_settles f p s (padding m0 m1 m2 m3) o b cs ds all = single_settles f _ (padded_box (insets_of m0 m1 m2 m3) b) cs ds all
rule_settles f p s (align m0 m1) o b cs ds all = single_settles f _ (aligned_box m0 m1 b) cs ds all
rule_settles f p s (colored_box m0) o b cs ds all = single_settles f _ (proxy b) cs ds all
rule_settles f p s (text m0 m1) o b cs ds all = record { size = refl; whole = λ still tells. refl }
rule_settles f p s (row m0 m1 m2) o b cs ds all = flex_settles f _ Horizontal m0 m1 m2 b cs ds all
rule_settles f p s (column m0 m1 m2) o b cs ds all = flex_settles f _ Vertical m0 m1 m2 b cs ds all
rule_settles f p s (wrap m0 m1) o b cs ds all = wrap_settles f _ m0 m1 b cs ds all
rule_settles f p s (table m0) o b cs ds all = table_settles f _ m0 b cs ds all
rule_settles f p s (stack m0 m1 m2) o b cs ds all = stack_settles f _ m0 m1 m2 b cs ds all
rule_settles f p s (flexible m0 m1) o b cs ds all = record { size = refl; whole = λ still tells. refl }
rule_settles f p s (positioned m0 m1 m2 m3 m4 m5) o b cs ds all = record { size = refl; whole = λ still tells. refl }
rule_settles f p s (opacity m0) o b cs ds all = single_settles f _ (proxy b) cs ds all
rule_settles f p s clip_rect o b cs ds all = single_settles f _ (proxy b) cs ds all
rule_settles f p s repaint_boundary o b cs ds all = single_settles f _ (proxy b) cs ds all
rule_settles f p s merge_semantics o b cs ds all = single_settles f _ (proxy b) cs ds all
rule_settles f p s intrinsic_width o b cs ds all = wide_settles f _ b cs ds all
rule_settles f p s intrinsic_height o b cs ds all = high_settles f _ b cs ds all
rule_settles f p s (offstage m0) o b cs ds all = single_settles f _ (offstage_box m0 b) cs ds all
rule_settles f p s (ignore_pointer m0) o b cs ds all = single_settles f _ (proxy b) cs ds all
rule_settles f p s (absorb_pointer m0) o b cs ds all = single_settles f _ (proxy b) cs ds all
rule_settles f p s (detector m0 m1 m2 m3 m4 m5) o b cs ds all = single_settles f _ (proxy b) cs ds all
rule_settles f p s (semantics m0 m1 m2) o b cs ds all = single_settles f _ (proxy b) cs ds all
rule_settles f p s (exclude_semantics m0) o b cs ds all = single_settles f _ (proxy b) cs ds all
rule_settles f p s (custom_paint m0) o b cs ds all = single_settles f _ (painted_box (meaning_of s.delegates m0) b) cs ds all
rule_settles f p s (custom_layout m0) o b cs ds all = single_settles f _ (delegated_box (meaning_of s.delegates m0) b) cs ds all
rule_settles f p s (viewport m0) o b cs ds all = viewport_settles f p m0 o b cs ds all
rule_settles f p s sliver_to_box o b cs ds all = record { size = refl; whole = λ still tells. refl }
rule_settles f p s (sliver_padding m0 m1 m2 m3) o b cs ds all = record { size = refl; whole = λ still tells. refl }
rule_settles f p s (sliver_fixed m0) o b cs ds all = record { size = refl; whole = λ still tells. refl }
rule_settles f p s (sliver_lazy m0) o b cs ds all = record { size = refl; whole = λ still tells. refl }
rule_settles f p s (keep m0) o b cs ds all = record { size = refl; whole = λ still tells. refl }
rule_settles f p s (inherit m0 m1) o b cs ds all = record { size = refl; whole = λ still tells. refl }
rule_settles f p s (component m0 m1 m2) o b cs ds all = record { size = refl; whole = λ still tells. refl }

-- ---- slivers

to_box_passes : (f : ℕ → Option ℕ) (b : SliverBounds) (cs ds : List Object) → AllLike f cs ds → Repeats f (to_box_rule b (only_of cs)) (to_box_rule b (only_of ds))
to_box_passes f b [] [] all = record { geometry = refl; whole = λ tells. refl }
to_box_passes f b [] (d ∷ ds) all = absurd all
to_box_passes f b (c ∷ cs) [] all = absurd all
to_box_passes f b (c ∷ cs) (d ∷ ds) all = record {
  geometry = ap (λ (z : Size). box_geometry_of b (Some (extent_of z b.axis))) (all.0.size (box_bounds b));
  whole = λ tells. ap (λ (l : Laid). record {
    geometry = box_geometry_of b (Some (extent_of (size_in l) b.axis));
    children = placed (offset_along b.axis (box_place_of b) (pos 0)) l ∷ [];
  }) (all.0.boxes (box_bounds b) tells.0);
}

padding_passes : (f : ℕ → Option ℕ) (i : Insets) (b : SliverBounds) (cs ds : List Object) → AllLike f cs ds
    → Repeats f (padding_rule i b (only_of cs)) (padding_rule i b (only_of ds))
padding_passes f i b [] [] all = record { geometry = refl; whole = λ tells. refl }
padding_passes f i b [] (d ∷ ds) all = absurd all
padding_passes f i b (c ∷ cs) [] all = absurd all
padding_passes f i b (c ∷ cs) (d ∷ ds) all = record {
  geometry = ap (λ (g : Geometry). padding_of b i (Some g)) (all.0.geometry (padded_of b i));
  whole = λ tells. ap (λ (l : Laid). record { geometry = padding_of b i (Some (geometry_in l)); children = placed (padded_place b i) l ∷ [] })
      (all.0.views (padded_of b i) tells.0);
}

item_more : (f : ℕ → Option ℕ) (t : Bool) (x y : Stood) (xs ys : List Stood) → (Tells f x.child → y ≡ x) → (AllTell f (laids_of xs) → ys ≡ xs)
    → AllTell f (laids_of (if t then x ∷ xs else xs)) → (if t then y ∷ ys else ys) ≡ (if t then x ∷ xs else xs)
item_more f true x y xs ys here rest tells = λ at. here tells.0 at ∷ rest tells.1 at
item_more f false x y xs ys here rest tells = rest tells

items_same : (f : ℕ → Option ℕ) (b : SliverBounds) (extent : ℕ) (w : Window) (is : List ℕ) (cs ds : List Object) → AllLike f cs ds
    → AllTell f (laids_of (items_in b extent w is cs)) → items_in b extent w is ds ≡ items_in b extent w is cs
items_same f b extent w [] cs ds all tells = refl
items_same f b extent w (i ∷ is) [] [] all tells = refl
items_same f b extent w (i ∷ is) [] (d ∷ ds) all tells = absurd all
items_same f b extent w (i ∷ is) (c ∷ cs) [] all tells = absurd all
items_same f b extent w (i ∷ is) (c ∷ cs) (d ∷ ds) all tells =
    item_more f (is_among w i) (item_in b extent i c) (item_in b extent i d) (items_in b extent w is cs) (items_in b extent w is ds)
    (λ here. ap (λ (l : Laid). placed (item_in b extent i c).at l) (all.0.boxes _ here)) (items_same f b extent w is cs ds all.1) tells

list_passes : (f : ℕ → Option ℕ) (extent count : ℕ) (b : SliverBounds) (is : List ℕ) (cs ds : List Object) → AllLike f cs ds
    → Repeats f (list_rule extent count b is cs) (list_rule extent count b is ds)
list_passes f extent count b is cs ds all = record {
  geometry = refl;
  whole = λ tells. ap (λ (xs : List Stood). record { geometry = list_geometry_of b extent count; children = xs })
      (items_same f b extent (window_of b extent count) is cs ds all tells);
}

passes_after : (f : ℕ → Option ℕ) (done near far : Passed) → far ≡ near → Repeats f done near → Repeats f done far
passes_after f done near far e h =
    record { geometry = ap (λ (x : Passed). x.geometry) e ∙ h.geometry; whole = λ tells. e ∙ h.whole tells }

fixed_passes : (f : ℕ → Option ℕ) (extent : ℕ) (b : SliverBounds) (cs ds : List Object) → AllLike f cs ds → Repeats f (fixed_rule extent b cs) (fixed_rule extent b ds)
fixed_passes f extent b cs ds all =
    let long = length_same f cs ds all in
    let indices = counted_same f 0 cs ds all in
    passes_after f (fixed_rule extent b cs) (list_rule extent (length cs) b (counted 0 cs) ds) (fixed_rule extent b ds)
    (λ at. list_rule extent (long at) b (indices at) ds)
    (list_passes f extent (length cs) b (counted 0 cs) cs ds all)

lazy_passes : (f : ℕ → Option ℕ) (extent count : ℕ) (b : SliverBounds) (cs ds : List Object) → AllLike f cs ds → Repeats f (lazy_rule extent count b cs) (lazy_rule extent count b ds)
lazy_passes f extent count b cs ds all =
    let indices = map (λ (c : Object). c.parent_data.index) cs in
    passes_after f (lazy_rule extent count b cs) (list_rule extent count b indices ds) (lazy_rule extent count b ds)
    (ap (λ (is : List ℕ). list_rule extent count b is ds) (indices_same f cs ds all))
    (list_passes f extent count b indices cs ds all)

sliver_passes : (f : ℕ → Option ℕ) (l : Look) (n : ℕ) (b : SliverBounds) (cs ds : List Object) → AllLike f cs ds → Repeats f (sliver_rule l n b cs) (sliver_rule l n b ds)
sliver_passes f (sized_box m0 m1) n b cs ds all = record { geometry = refl; whole = λ tells. refl }
sliver_passes f (constrained_box m0 m1 m2 m3) n b cs ds all = record { geometry = refl; whole = λ tells. refl }
sliver_passes f (padding m0 m1 m2 m3) n b cs ds all = record { geometry = refl; whole = λ tells. refl }
sliver_passes f (align m0 m1) n b cs ds all = record { geometry = refl; whole = λ tells. refl }
sliver_passes f (colored_box m0) n b cs ds all = record { geometry = refl; whole = λ tells. refl }
sliver_passes f (text m0 m1) n b cs ds all = record { geometry = refl; whole = λ tells. refl }
sliver_passes f (row m0 m1 m2) n b cs ds all = record { geometry = refl; whole = λ tells. refl }
sliver_passes f (column m0 m1 m2) n b cs ds all = record { geometry = refl; whole = λ tells. refl }
sliver_passes f (wrap m0 m1) n b cs ds all = record { geometry = refl; whole = λ tells. refl }
sliver_passes f (table m0) n b cs ds all = record { geometry = refl; whole = λ tells. refl }
sliver_passes f (stack m0 m1 m2) n b cs ds all = record { geometry = refl; whole = λ tells. refl }
sliver_passes f (flexible m0 m1) n b cs ds all = record { geometry = refl; whole = λ tells. refl }
sliver_passes f (positioned m0 m1 m2 m3 m4 m5) n b cs ds all = record { geometry = refl; whole = λ tells. refl }
sliver_passes f (opacity m0) n b cs ds all = record { geometry = refl; whole = λ tells. refl }
sliver_passes f clip_rect n b cs ds all = record { geometry = refl; whole = λ tells. refl }
sliver_passes f repaint_boundary n b cs ds all = record { geometry = refl; whole = λ tells. refl }
sliver_passes f merge_semantics n b cs ds all = record { geometry = refl; whole = λ tells. refl }
sliver_passes f intrinsic_width n b cs ds all = record { geometry = refl; whole = λ tells. refl }
sliver_passes f intrinsic_height n b cs ds all = record { geometry = refl; whole = λ tells. refl }
sliver_passes f (offstage m0) n b cs ds all = record { geometry = refl; whole = λ tells. refl }
sliver_passes f (ignore_pointer m0) n b cs ds all = record { geometry = refl; whole = λ tells. refl }
sliver_passes f (absorb_pointer m0) n b cs ds all = record { geometry = refl; whole = λ tells. refl }
sliver_passes f (detector m0 m1 m2 m3 m4 m5) n b cs ds all = record { geometry = refl; whole = λ tells. refl }
sliver_passes f (semantics m0 m1 m2) n b cs ds all = record { geometry = refl; whole = λ tells. refl }
sliver_passes f (exclude_semantics m0) n b cs ds all = record { geometry = refl; whole = λ tells. refl }
sliver_passes f (custom_paint m0) n b cs ds all = record { geometry = refl; whole = λ tells. refl }
sliver_passes f (custom_layout m0) n b cs ds all = record { geometry = refl; whole = λ tells. refl }
sliver_passes f (viewport m0) n b cs ds all = record { geometry = refl; whole = λ tells. refl }
sliver_passes f sliver_to_box n b cs ds all = to_box_passes f b cs ds all
sliver_passes f (sliver_padding m0 m1 m2 m3) n b cs ds all = padding_passes f (insets_of m0 m1 m2 m3) b cs ds all
sliver_passes f (sliver_fixed m0) n b cs ds all = fixed_passes f m0 b cs ds all
sliver_passes f (sliver_lazy m0) n b cs ds all = lazy_passes f m0 n b cs ds all
sliver_passes f (keep m0) n b cs ds all = record { geometry = refl; whole = λ tells. refl }
sliver_passes f (inherit m0 m1) n b cs ds all = record { geometry = refl; whole = λ tells. refl }
sliver_passes f (component m0 m1 m2) n b cs ds all = record { geometry = refl; whole = λ tells. refl }

-- ---- trees

mutual
  unfolding object objects

  pub object_like : (f : ℕ → Option ℕ) (s : Setting) (r : Render) → Like f (object s r) (object s (render_scrolled_by f r))
  object_like f s (render n l d o c rs) = record {
    told = refl;
    greatest = λ axis across. likes_same f s l axis across (objects s rs) (objects s (renders_scrolled_by f rs)) (objects_like f s rs);
    size = λ b. (rule_settles f (f n) s l o b (objects s rs) (objects s (renders_scrolled_by f rs)) (objects_like f s rs)).size;
    geometry = λ b. (sliver_passes f l c b (objects s rs) (objects s (renders_scrolled_by f rs)) (objects_like f s rs)).geometry;
    boxes = λ b tells. ap (laid_box s n l b)
        ((rule_settles f (f n) s l o b (objects s rs) (objects s (renders_scrolled_by f rs)) (objects_like f s rs)).whole tells.0 tells.1);
    views = λ b tells. ap (laid_sliver s n l b)
        ((sliver_passes f l c b (objects s rs) (objects s (renders_scrolled_by f rs)) (objects_like f s rs)).whole tells.1);
  }

  pub objects_like : (f : ℕ → Option ℕ) (s : Setting) (rs : Renders) → AllLike f (objects s rs) (objects s (renders_scrolled_by f rs))
  objects_like f s no_renders = tt
  objects_like f s (more_renders r rs) = (object_like f s r, objects_like f s rs)
