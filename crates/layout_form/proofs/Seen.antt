-- Each rule is what it makes of frames, with the laid children stood at the places.
use Rattle.std.proofs.Common.{◌≡◌, ap, refl, sym, ◌∙◌, ℕ, ◌+◌, ◌-◌, ◌^◌, ◌≤◌, Option, Some, List, [], ◌∷◌, map, arith}
use Rattle.std.specs.Prelude.{pos}
use Rattle.fx_geom.specs.declared.boxes.Bounds.{Bounds}
use Rattle.fx_geom.specs.declared.shapes.Axis.{Axis}
use Rattle.fx_geom.specs.Along.{offset_along}
use Rattle.fx_geom.specs.Insets.{other_of, extent_of}
use Rattle.fx_geom.specs.Len.{total_of}
use Rattle.sliver_layout.specs.declared.protocol.Geometry.{Geometry}
use Rattle.sliver_layout.specs.declared.protocol.SliverBounds.{SliverBounds}
use Rattle.sliver_layout.specs.declared.protocol.Walk.{Walk}
use Rattle.sliver_layout.specs.Slivers.{geometry_of, corrected_of, walk_from, view_of, walk_past}
use Rattle.widget_model.specs.Look.{Look, sized_box, constrained_box, padding, align, colored_box, text, row, column, wrap, table, stack, flexible, positioned, opacity, clip_rect, repaint_boundary, merge_semantics, intrinsic_width, intrinsic_height, offstage, ignore_pointer, absorb_pointer, detector, semantics, exclude_semantics, custom_paint, custom_layout, viewport, sliver_to_box, sliver_padding, sliver_fixed, sliver_lazy, keep, inherit, component}
use Rattle.plain_tree.specs.declared.laid.Frame.{Frame}
use Rattle.plain_tree.specs.Laid.{Laid, Stood}
use Rattle.plain_tree.specs.Render.{Renders}
use Rattle.layout_form.specs.declared.asks.Ask.{Ask}
use Rattle.layout_form.specs.declared.asks.Ask.TheVariants.{AsSliver}
use Rattle.layout_form.specs.Object.{Setting, Object, geometry_in, placed, placed_at, datas, only_of}
use Rattle.layout_form.specs.Single.{insets_of}
use Rattle.layout_form.specs.Intrinsic.{liked_by}
use Rattle.layout_form.specs.SliverRule.{view_size, view_done, unseen, walked, viewport_rule, to_box_rule, padding_rule}
use Rattle.layout_form.specs.Layout.{box_rule, sliver_rule, objects}
use Rattle.layout_form.specs.Protocol.{round, nothing, present, everybody, box_first, box_rest, found_by, Found, box_made, sliver_made}
use Rattle.layout_form.specs.Frames.{frames_in, frames_given, geometries_by, scrolls_by, extents_by, done_with, passed_with, walk_places, box_makes, sliver_makes, found_makes, rest_makes, view_makes, geometries_from, views_by, start_by, sliver_asks}
use Rattle.layout_form.specs.Framed.{framed, answers_of, laid_for, last_asks, box_asks, box_given, sliver_given}
use Rattle.layout_form.proofs.Meets.{view_within, within_lengths}
use Rattle.layout_form.proofs.Extents.{extent_small}
use Rattle.layout_form.proofs.Scroll.{AllFollow, objects_follow}
use Rattle.layout_form.proofs.Rounds.{AllMeasured, objects_measured, rule_asked, fixed_asked, lazy_asked}
use Rattle.layout_form.proofs.Framed.{given_are, answers_are, rounds_are, box_by, sliver_by, found_is, IsNoViewport, rest_is}

-- ---- boxes but a Viewport

boxed_by : (s : Setting) (l : Look) (o : ℕ) (b : Bounds) (cs : List Object) → AllMeasured cs → IsNoViewport l
    → let liked = liked_by l b (only_of cs) in
    box_rule s l o b cs ≡ done_with (box_given s l o b liked (datas cs) (map framed cs)) (laid_for (box_asks s l o b liked (datas cs) (map framed cs)) cs)
boxed_by s l o b cs all else_than =
    let ds = datas cs in
    let liked = liked_by l b (only_of cs) in
    let firsts = box_first s l b liked ds in
    let first = round firsts (nothing cs) cs in
    let known = answers_of firsts (map framed cs) in
    let found = found_makes l o b known in
    let asks = box_asks s l o b liked ds (map framed cs) in
    let second = round asks (nothing cs) cs in
    let frames : frames_in first ≡ known = answers_are firsts cs in
    let founds : found_by l o b first ≡ found = found_is l o b first ∙ ap (λ (fs : List (Option Frame)). found_makes l o b fs) frames in
    let rests : box_rest l b (found_by l o b first) ds first ≡ rest_makes l b found ds known =
    rest_is l b (found_by l o b first) ds first else_than
    ∙ ap (λ (f : Found). rest_makes l b f ds (frames_in first)) founds
    ∙ ap (λ (fs : List (Option Frame)). rest_makes l b found ds fs) frames in
    let seconds : round (box_rest l b (found_by l o b first) ds first) first cs ≡ second =
    ap (λ (xs : List (Option Ask)). round xs first cs) rests ∙ rounds_are firsts (rest_makes l b found ds known) cs in
    sym (rule_asked s l o b cs all)
    ∙ ap (λ (f : Found). box_made s l b f ds (present (round (box_rest l b (found_by l o b first) ds first) first cs))) founds
    ∙ ap (λ (slots : List (Option Laid)). box_made s l b found ds (present slots)) seconds
    ∙ box_by s l b found ds (present second)
    ∙ ap (λ (fs : List Frame). done_with (box_makes s l b found ds fs) (present second))
    (given_are second ∙ ap frames_given (answers_are asks cs))

-- ---- Viewport

abbrev unseen_asks : Axis → ℕ → List Object → List (Option Ask)
unseen_asks axis cross cs = everybody (AsSliver (unseen axis cross)) (datas cs)

abbrev unseen_known : Axis → ℕ → List Object → List (Option Frame)
unseen_known axis cross cs = answers_of (unseen_asks axis cross cs) (map framed cs)

scrolls_framed : (axis : Axis) (cross : ℕ) (cs : List Object)
    → map (λ (c : Object). (geometry_in (c.in_view (unseen axis cross))).scroll) cs ≡ scrolls_by (unseen_known axis cross cs)
scrolls_framed axis cross [] = refl
scrolls_framed axis cross (c ∷ cs) =
    ap (λ (ns : List ℕ). (geometry_in (c.in_view (unseen axis cross))).scroll ∷ ns) (scrolls_framed axis cross cs)

abbrev walk_asks : Axis → ℕ → ℕ → Walk → List Object → List (Option Ask)
walk_asks axis main cross walk cs =
    last_asks (unseen_asks axis cross cs) (views_by axis main cross walk (extents_by (unseen_known axis cross cs)))

-- the slivers by their asks
abbrev walked_as : Axis → Walk → List (Option Ask) → List Object → List Stood
walked_as axis walk asks cs =
    placed_at (walk_places axis walk (geometries_by (frames_given (answers_of asks (map framed cs))))) (laid_for asks cs)

next_range : (left at main scroll paint : ℕ) → left + (main - at) ≤ 2 ^ 40 → (left - scroll) + (main - (at + paint)) ≤ 2 ^ 40
next_range left at main scroll paint range = omega arith

walk_framed : (axis : Axis) (main cross : ℕ) (walk : Walk) (cs : List Object) → walk.left + (main - walk.at) ≤ 2 ^ 40 → AllFollow cs
    → walked axis main cross walk cs ≡ walked_as axis walk (walk_asks axis main cross walk cs) cs
walk_framed axis main cross walk [] range all = refl
walk_framed axis main cross walk (c ∷ cs) range all =
    let v = view_of axis main cross walk in
    let l = c.in_view v in
    let here = placed (offset_along axis (pos walk.at) (pos 0)) l in
    let n = (geometry_in (c.in_view (unseen axis cross))).scroll in
    let same : geometry_in l ≡ geometry_of v n = all.0.same v range in
    ap (λ (xs : List Stood). here ∷ xs)
    (walk_framed axis main cross (walk_past walk (geometry_in l)) cs
    (next_range walk.left walk.at main (geometry_in l).scroll (geometry_in l).paint range) all.1)
    ∙ ap (λ (g : Geometry). here ∷ walked_as axis (walk_past walk (geometry_in l)) (walk_asks axis main cross (walk_past walk g) cs) cs) same

viewed_by : (s : Setting) (axis : Axis) (o : ℕ) (b : Bounds) (liked : ℕ) (cs : List Object) → AllFollow cs
    → viewport_rule axis o b cs
    ≡ done_with (box_given s (viewport axis) o b liked (datas cs) (map framed cs)) (laid_for (box_asks s (viewport axis) o b liked (datas cs) (map framed cs)) cs)
viewed_by s axis o b liked cs all =
    let main = extent_of (view_size b) axis in
    let cross = extent_of (view_size b) (other_of axis) in
    let start = start_by axis o b (scrolls_by (unseen_known axis cross cs)) in
    let long : main ≤ 2 ^ 40 = extent_small (view_size b) axis (within_lengths b (view_size b) (view_within b)) in
    let range : start + (main - 0) ≤ 2 ^ 40 = omega (arith, long) in
    ap (λ (ns : List ℕ). let st = corrected_of o (total_of ns) main in view_done b st (walked axis main cross (walk_from st) cs)) (scrolls_framed axis cross cs)
    ∙ ap (λ (xs : List Stood). view_done b start xs) (walk_framed axis main cross (walk_from start) cs range all)

-- the slivers by how far each can be scrolled through
abbrev scrolls_in : Axis → ℕ → List Object → List ℕ
scrolls_in axis cross cs = map (λ (c : Object). (geometry_in (c.in_view (unseen axis cross))).scroll) cs

abbrev some_extents : List ℕ → List (Option ℕ)
some_extents ns = map (λ (n : ℕ). Some n) ns

walk_scrolls : (axis : Axis) (main cross : ℕ) (walk : Walk) (cs : List Object) → walk.left + (main - walk.at) ≤ 2 ^ 40 → AllFollow cs
    → walked axis main cross walk cs
    ≡ placed_at (walk_places axis walk (geometries_from axis main cross walk (scrolls_in axis cross cs)))
    (laid_for (views_by axis main cross walk (some_extents (scrolls_in axis cross cs))) cs)
walk_scrolls axis main cross walk [] range all = refl
walk_scrolls axis main cross walk (c ∷ cs) range all =
    let v = view_of axis main cross walk in
    let l = c.in_view v in
    let here = placed (offset_along axis (pos walk.at) (pos 0)) l in
    let g = geometry_of v (geometry_in (c.in_view (unseen axis cross))).scroll in
    ap (λ (x : Geometry). here ∷ walked axis main cross (walk_past walk x) cs) (all.0.same v range)
    ∙ ap (λ (xs : List Stood). here ∷ xs)
    (walk_scrolls axis main cross (walk_past walk g) cs (next_range walk.left walk.at main g.scroll g.paint range) all.1)

pub view_scrolls : (s : Setting) (axis : Axis) (o : ℕ) (b : Bounds) (rs : Renders)
    → let main = extent_of (view_size b) axis in
    let cross = extent_of (view_size b) (other_of axis) in
    let extents = map (λ (c : Object). (geometry_in (c.in_view (unseen axis cross))).scroll) (objects s rs) in
    let start = start_by axis o b extents in
    viewport_rule axis o b (objects s rs)
    ≡ done_with (view_makes axis b start (geometries_from axis main cross (walk_from start) extents))
    (laid_for (views_by axis main cross (walk_from start) (map (λ (n : ℕ). Some n) extents)) (objects s rs))
view_scrolls s axis o b rs =
    let main = extent_of (view_size b) axis in
    let cross = extent_of (view_size b) (other_of axis) in
    let start = start_by axis o b (scrolls_in axis cross (objects s rs)) in
    let long : main ≤ 2 ^ 40 = extent_small (view_size b) axis (within_lengths b (view_size b) (view_within b)) in
    let range : start + (main - 0) ≤ 2 ^ 40 = omega (arith, long) in
    ap (λ (xs : List Stood). view_done b start xs) (walk_scrolls axis main cross (walk_from start) (objects s rs) range (objects_follow s rs))

-- ---- all kinds

framed_by : (s : Setting) (l : Look) (o : ℕ) (b : Bounds) (cs : List Object) → AllMeasured cs → AllFollow cs
    → let liked = liked_by l b (only_of cs) in
    box_rule s l o b cs ≡ done_with (box_given s l o b liked (datas cs) (map framed cs)) (laid_for (box_asks s l o b liked (datas cs) (map framed cs)) cs)
framed_by s (sized_box m0 m1) o b cs all follow = boxed_by s (sized_box m0 m1) o b cs all tt
framed_by s (constrained_box m0 m1 m2 m3) o b cs all follow = boxed_by s (constrained_box m0 m1 m2 m3) o b cs all tt
framed_by s (padding m0 m1 m2 m3) o b cs all follow = boxed_by s (padding m0 m1 m2 m3) o b cs all tt
framed_by s (align m0 m1) o b cs all follow = boxed_by s (align m0 m1) o b cs all tt
framed_by s (colored_box m0) o b cs all follow = boxed_by s (colored_box m0) o b cs all tt
framed_by s (text m0 m1) o b cs all follow = boxed_by s (text m0 m1) o b cs all tt
framed_by s (row m0 m1 m2) o b cs all follow = boxed_by s (row m0 m1 m2) o b cs all tt
framed_by s (column m0 m1 m2) o b cs all follow = boxed_by s (column m0 m1 m2) o b cs all tt
framed_by s (wrap m0 m1) o b cs all follow = boxed_by s (wrap m0 m1) o b cs all tt
framed_by s (table m0) o b cs all follow = boxed_by s (table m0) o b cs all tt
framed_by s (stack m0 m1 m2) o b cs all follow = boxed_by s (stack m0 m1 m2) o b cs all tt
framed_by s (flexible m0 m1) o b cs all follow = boxed_by s (flexible m0 m1) o b cs all tt
framed_by s (positioned m0 m1 m2 m3 m4 m5) o b cs all follow = boxed_by s (positioned m0 m1 m2 m3 m4 m5) o b cs all tt
framed_by s (opacity m0) o b cs all follow = boxed_by s (opacity m0) o b cs all tt
framed_by s clip_rect o b cs all follow = boxed_by s clip_rect o b cs all tt
framed_by s repaint_boundary o b cs all follow = boxed_by s repaint_boundary o b cs all tt
framed_by s merge_semantics o b cs all follow = boxed_by s merge_semantics o b cs all tt
framed_by s intrinsic_width o b cs all follow = boxed_by s intrinsic_width o b cs all tt
framed_by s intrinsic_height o b cs all follow = boxed_by s intrinsic_height o b cs all tt
framed_by s (offstage m0) o b cs all follow = boxed_by s (offstage m0) o b cs all tt
framed_by s (ignore_pointer m0) o b cs all follow = boxed_by s (ignore_pointer m0) o b cs all tt
framed_by s (absorb_pointer m0) o b cs all follow = boxed_by s (absorb_pointer m0) o b cs all tt
framed_by s (detector m0 m1 m2 m3 m4 m5) o b cs all follow = boxed_by s (detector m0 m1 m2 m3 m4 m5) o b cs all tt
framed_by s (semantics m0 m1 m2) o b cs all follow = boxed_by s (semantics m0 m1 m2) o b cs all tt
framed_by s (exclude_semantics m0) o b cs all follow = boxed_by s (exclude_semantics m0) o b cs all tt
framed_by s (custom_paint m0) o b cs all follow = boxed_by s (custom_paint m0) o b cs all tt
framed_by s (custom_layout m0) o b cs all follow = boxed_by s (custom_layout m0) o b cs all tt
framed_by s (viewport m0) o b cs all follow = viewed_by s m0 o b 0 cs follow
framed_by s sliver_to_box o b cs all follow = boxed_by s sliver_to_box o b cs all tt
framed_by s (sliver_padding m0 m1 m2 m3) o b cs all follow = boxed_by s (sliver_padding m0 m1 m2 m3) o b cs all tt
framed_by s (sliver_fixed m0) o b cs all follow = boxed_by s (sliver_fixed m0) o b cs all tt
framed_by s (sliver_lazy m0) o b cs all follow = boxed_by s (sliver_lazy m0) o b cs all tt
framed_by s (keep m0) o b cs all follow = boxed_by s (keep m0) o b cs all tt
framed_by s (inherit m0 m1) o b cs all follow = boxed_by s (inherit m0 m1) o b cs all tt
framed_by s (component m0 m1 m2) o b cs all follow = boxed_by s (component m0 m1 m2) o b cs all tt

to_box_seen : (count : ℕ) (b : SliverBounds) (cs : List Object)
    → to_box_rule b (only_of cs) ≡ passed_with (sliver_given sliver_to_box count b (datas cs) (map framed cs)) (laid_for (sliver_asks sliver_to_box count b (datas cs)) cs)
to_box_seen count b [] = refl
to_box_seen count b (c ∷ cs) = refl

padding_seen : (m0 m1 m2 m3 count : ℕ) (b : SliverBounds) (cs : List Object)
    → padding_rule (insets_of m0 m1 m2 m3) b (only_of cs)
    ≡ passed_with (sliver_given (sliver_padding m0 m1 m2 m3) count b (datas cs) (map framed cs)) (laid_for (sliver_asks (sliver_padding m0 m1 m2 m3) count b (datas cs)) cs)
padding_seen m0 m1 m2 m3 count b [] = refl
padding_seen m0 m1 m2 m3 count b (c ∷ cs) = refl

-- what is made of the answers to these asks
made_by : (l : Look) (count : ℕ) (b : SliverBounds) (cs : List Object)
    → sliver_made l count b (datas cs) (round (sliver_asks l count b (datas cs)) (nothing cs) cs)
    ≡ passed_with (sliver_given l count b (datas cs) (map framed cs)) (laid_for (sliver_asks l count b (datas cs)) cs)
made_by l count b cs =
    let ds = datas cs in
    let asks = sliver_asks l count b ds in
    sliver_by l count b ds (round asks (nothing cs) cs)
    ∙ ap (λ (fs : List (Option Frame)). passed_with (sliver_makes l count b ds fs) (laid_for asks cs)) (answers_are asks cs)

pub sliver_seen : (l : Look) (count : ℕ) (b : SliverBounds) (cs : List Object)
    → sliver_rule l count b cs ≡ passed_with (sliver_given l count b (datas cs) (map framed cs)) (laid_for (sliver_asks l count b (datas cs)) cs)
sliver_seen (sized_box m0 m1) count b cs = refl
sliver_seen (constrained_box m0 m1 m2 m3) count b cs = refl
sliver_seen (padding m0 m1 m2 m3) count b cs = refl
sliver_seen (align m0 m1) count b cs = refl
sliver_seen (colored_box m0) count b cs = refl
sliver_seen (text m0 m1) count b cs = refl
sliver_seen (row m0 m1 m2) count b cs = refl
sliver_seen (column m0 m1 m2) count b cs = refl
sliver_seen (wrap m0 m1) count b cs = refl
sliver_seen (table m0) count b cs = refl
sliver_seen (stack m0 m1 m2) count b cs = refl
sliver_seen (flexible m0 m1) count b cs = refl
sliver_seen (positioned m0 m1 m2 m3 m4 m5) count b cs = refl
sliver_seen (opacity m0) count b cs = refl
sliver_seen clip_rect count b cs = refl
sliver_seen repaint_boundary count b cs = refl
sliver_seen merge_semantics count b cs = refl
sliver_seen intrinsic_width count b cs = refl
sliver_seen intrinsic_height count b cs = refl
sliver_seen (offstage m0) count b cs = refl
sliver_seen (ignore_pointer m0) count b cs = refl
sliver_seen (absorb_pointer m0) count b cs = refl
sliver_seen (detector m0 m1 m2 m3 m4 m5) count b cs = refl
sliver_seen (semantics m0 m1 m2) count b cs = refl
sliver_seen (exclude_semantics m0) count b cs = refl
sliver_seen (custom_paint m0) count b cs = refl
sliver_seen (custom_layout m0) count b cs = refl
sliver_seen (viewport m0) count b cs = refl
sliver_seen sliver_to_box count b cs = to_box_seen count b cs
sliver_seen (sliver_padding m0 m1 m2 m3) count b cs = padding_seen m0 m1 m2 m3 count b cs
sliver_seen (sliver_fixed m0) count b cs = sym (fixed_asked m0 b cs) ∙ made_by (sliver_fixed m0) count b cs
sliver_seen (sliver_lazy m0) count b cs = sym (lazy_asked m0 count b cs) ∙ made_by (sliver_lazy m0) count b cs
sliver_seen (keep m0) count b cs = refl
sliver_seen (inherit m0 m1) count b cs = refl
sliver_seen (component m0 m1 m2) count b cs = refl

pub box_seen : (s : Setting) (l : Look) (o : ℕ) (b : Bounds) (rs : Renders)
    → let cs = objects s rs in
    let liked = liked_by l b (only_of cs) in
    box_rule s l o b cs ≡ done_with (box_given s l o b liked (datas cs) (map framed cs)) (laid_for (box_asks s l o b liked (datas cs) (map framed cs)) cs)
box_seen s l o b rs = framed_by s l o b (objects s rs) (objects_measured s rs) (objects_follow s rs)
