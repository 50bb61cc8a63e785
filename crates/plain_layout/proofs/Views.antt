-- The slivers of a Viewport: measured by the boxes in them, and laid out in their views around these boxes.
use Rattle.std.proofs.Common.{◌≡◌, ap, refl, sym, ◌∙◌, subst, ℕ, suc, ◌+◌, ◌-◌, ◌^◌, ◌≤◌, Option, Some, None, List, [], ◌∷◌, map, length, arith}
use Rattle.fx_geom.specs.declared.boxes.Bounds.{Bounds}
use Rattle.fx_geom.specs.declared.shapes.Axis.{Axis}
use Rattle.fx_geom.specs.declared.shapes.Axis.TheVariants.{Horizontal}
use Rattle.fx_geom.specs.Insets.{extent_of, other_of}
use Rattle.fx_geom.specs.Size.{HasLengths, no_size}
use Rattle.sliver_layout.specs.declared.protocol.Geometry.{Geometry}
use Rattle.sliver_layout.specs.declared.protocol.SliverBounds.{SliverBounds}
use Rattle.sliver_layout.specs.declared.protocol.Walk.{Walk}
use Rattle.sliver_layout.specs.Slivers.{geometry_of, walk_from, walk_past, view_of}
use Rattle.widget_model.specs.Look.{Look, viewport}
use Rattle.plain_tree.specs.declared.laid.Frame.{Frame}
use Rattle.plain_tree.specs.declared.render.ParentData.{ParentData}
use Rattle.plain_tree.specs.Laid.{Laid}
use Rattle.plain_tree.specs.Render.{Render, render, Renders, renders_of}
use Rattle.layout_form.specs.declared.asks.Ask.{Ask}
use Rattle.layout_form.specs.declared.asks.Ask.TheVariants.{AsBox, AsSliver}
use Rattle.layout_form.specs.Object.{Setting, Object, Done, geometry_in}
use Rattle.layout_form.specs.SliverRule.{view_size, unseen, viewport_rule}
use Rattle.layout_form.specs.Layout.{object, objects, laid_box}
use Rattle.layout_form.specs.Protocol.{round, nothing, present, Found}
use Rattle.layout_form.specs.Frames.{frames_in, frames_given, geometries_by, scrolls_by, extents_by, start_by, views_by, geometries_from, view_makes, done_with}
use Rattle.layout_form.specs.Framed.{framed, answers_of, laid_for, EndsInRange}
use Rattle.layout_form.proofs.Objects.{objects_map, object_box}
use Rattle.layout_form.proofs.Framed.{answers_are}
use Rattle.layout_form.proofs.Meets.{within_lengths, view_within}
use Rattle.layout_form.proofs.Extents.{extent_small}
use Rattle.kind_rules.specs.Asked.{found_for, rest_for, ruling_for, IsWalk}
use Rattle.kind_rules.specs.Below.{laid_below, extent_below, scroll_by}
use Rattle.kind_rules.specs.Walks.{IsSeen}
use Rattle.plain_layout.specs.Computed.{laid_by, answers_for}
use Rattle.plain_layout.specs.Slivers.{measured_with, next_slots, IsReady, AllTasks}
use Rattle.plain_layout.proofs.Asking.{no_tasks}

-- how far slivers can be scrolled through, one by one
abbrev pub scrolls_in : Setting → Axis → ℕ → List Render → List ℕ
scrolls_in s axis cross rs = map (λ (c : Object). (geometry_in (c.in_view (unseen axis cross))).scroll) (map (object s) rs)

abbrev some_of : List ℕ → List (Option ℕ)
some_of ns = map (λ (n : ℕ). Some n) ns

abbrev pub MeasuredByBoxes : Type 0
MeasuredByBoxes = (s : Setting) (r : Render) (axis : Axis) (cross : ℕ)
    → (geometry_in ((object s r).in_view (unseen axis cross))).scroll ≡ scroll_by axis (extent_below axis (laid_below s axis cross r)) r

abbrev pub FollowScrolls : Type 0
FollowScrolls = (s : Setting) (r : Render) (b : SliverBounds) → EndsInRange b
    → geometry_in ((object s r).in_view b) ≡ geometry_of b (geometry_in ((object s r).in_view (unseen b.axis b.cross))).scroll

abbrev pub NeedScrolls : Type 0
NeedScrolls = (s : Setting) (axis : Axis) (offset : ℕ) (b : Bounds) (rs : Renders) → let main = extent_of (view_size b) axis in
    let cross = extent_of (view_size b) (other_of axis) in
    let extents = map (λ (c : Object). (geometry_in (c.in_view (unseen axis cross))).scroll) (objects s rs) in
    let start = start_by axis offset b extents in
    viewport_rule axis offset b (objects s rs)
    ≡ done_with (view_makes axis b start (geometries_from axis main cross (walk_from start) extents)) (laid_for (views_by axis main cross (walk_from start) (map (λ (n : ℕ). Some n) extents)) (objects s rs))

-- ---- measured

abbrev boxes_of : Setting → Axis → ℕ → List Render → List (Option Laid)
boxes_of s axis cross rs = map (laid_below s axis cross) rs

extents_are : (by : MeasuredByBoxes) (s : Setting) (axis : Axis) (cross : ℕ) (rs : List Render)
    → extents_by (measured_with axis cross rs (boxes_of s axis cross rs)) ≡ some_of (scrolls_in s axis cross rs)
extents_are by s axis cross [] = refl
extents_are by s axis cross (r ∷ rs) =
    ap (λ (n : ℕ). Some n ∷ extents_by (measured_with axis cross rs (boxes_of s axis cross rs))) (sym (by s r axis cross))
    ∙ ap (λ (ns : List (Option ℕ)). Some (geometry_in ((object s r).in_view (unseen axis cross))).scroll ∷ ns) (extents_are by s axis cross rs)

scrolls_are : (by : MeasuredByBoxes) (s : Setting) (axis : Axis) (cross : ℕ) (rs : List Render)
    → scrolls_by (measured_with axis cross rs (boxes_of s axis cross rs)) ≡ scrolls_in s axis cross rs
scrolls_are by s axis cross [] = refl
scrolls_are by s axis cross (r ∷ rs) =
    ap (λ (n : ℕ). n ∷ scrolls_by (measured_with axis cross rs (boxes_of s axis cross rs))) (sym (by s r axis cross))
    ∙ ap (λ (ns : List ℕ). (geometry_in ((object s r).in_view (unseen axis cross))).scroll ∷ ns) (scrolls_are by s axis cross rs)

-- ---- in their views

next_range : (left at main scroll paint : ℕ) → left + (main - at) ≤ 2 ^ 40 → (left - scroll) + (main - (at + paint)) ≤ 2 ^ 40
next_range left at main scroll paint range = omega arith

abbrev views_in : Setting → Axis → ℕ → ℕ → Walk → List Render → List (Option Ask)
views_in s axis main cross walk rs = views_by axis main cross walk (some_of (scrolls_in s axis cross rs))

walk_gives : (follow : FollowScrolls) (s : Setting) (axis : Axis) (main cross : ℕ) (walk : Walk) (rs : List Render) → walk.left + (main - walk.at) ≤ 2 ^ 40
    → geometries_by (frames_given (answers_of (views_in s axis main cross walk rs) (map framed (map (object s) rs)))) ≡ geometries_from axis main cross walk (scrolls_in s axis cross rs)
walk_gives follow s axis main cross walk [] range = refl
walk_gives follow s axis main cross walk (r ∷ rs) range =
    let v = view_of axis main cross walk in
    let g = geometry_of v (geometry_in ((object s r).in_view (unseen axis cross))).scroll in
    let more = geometries_by (frames_given (answers_of (views_in s axis main cross (walk_past walk g) rs) (map framed (map (object s) rs)))) in
    ap (λ (x : Geometry). x ∷ more) (follow s r v range)
    ∙ ap (λ (xs : List Geometry). g ∷ xs) (walk_gives follow s axis main cross (walk_past walk g) rs (next_range walk.left walk.at main g.scroll g.paint range))

paint_most : (b : SliverBounds) (n : ℕ) → (geometry_of b n).paint ≤ b.remaining
paint_most b n = omega arith

seen_from : (axis : Axis) (main cross : ℕ) (walk : Walk) (ns : List ℕ) → IsSeen main walk (geometries_from axis main cross walk ns)
seen_from axis main cross walk [] = tt
seen_from axis main cross walk (n ∷ ns) =
    let v = view_of axis main cross walk in
    (paint_most v n, seen_from axis main cross (walk_past walk (geometry_of v n)) ns)

kept_ready : (s : Setting) (v : SliverBounds) (r : Render) (kept : Option Laid) → v.offset ≤ 2 ^ 40 → kept ≡ laid_below s v.axis v.cross r → IsReady s (AsSliver v) kept r
kept_ready s v r None small is = small
kept_ready s v r (Some l) small is = (small, is)

views_tasks : (s : Setting) (axis : Axis) (main cross : ℕ) (walk : Walk) (ns : List ℕ) (rs : List Render) → walk.left ≤ 2 ^ 40
    → AllTasks s None (views_by axis main cross walk (some_of ns)) (boxes_of s axis cross rs) rs
views_tasks s axis main cross walk ns [] small = tt
views_tasks s axis main cross walk [] (r ∷ rs) small = (tt, no_tasks s (boxes_of s axis cross rs) rs)
views_tasks s axis main cross walk (n ∷ ns) (r ∷ rs) small =
    let v = view_of axis main cross walk in
    (kept_ready s v r (laid_below s axis cross r) small refl, views_tasks s axis main cross (walk_past walk (geometry_of v n)) ns rs (omega (arith, small)))

-- all slivers are asked, so that nothing stays of what was kept
views_all : (s : Setting) (axis : Axis) (main cross : ℕ) (walk : Walk) (ns : List ℕ) (slots : List (Option Laid)) (rs : List Render) → length ns ≡ length rs → length slots ≡ length rs
    → next_slots s None (views_by axis main cross walk (some_of ns)) slots rs ≡ answers_for s (views_by axis main cross walk (some_of ns)) rs
views_all s axis main cross walk [] [] [] e f = refl
views_all s axis main cross walk [] slots (r ∷ rs) e f = absurd (omega (arith, e))
views_all s axis main cross walk (n ∷ ns) slots [] e f = absurd (omega (arith, e))
views_all s axis main cross walk ns (slot ∷ slots) [] e f = absurd (omega (arith, f))
views_all s axis main cross walk (n ∷ ns) [] (r ∷ rs) e f = absurd (omega (arith, f))
views_all s axis main cross walk (n ∷ ns) (slot ∷ slots) (r ∷ rs) e f =
    let v = view_of axis main cross walk in
    ap (λ (xs : List (Option Laid)). Some ((object s r).in_view v) ∷ xs)
    (views_all s axis main cross (walk_past walk (geometry_of v n)) ns slots rs (omega (arith, e)) (omega (arith, f)))

scrolls_long : (s : Setting) (axis : Axis) (cross : ℕ) (rs : List Render) → length (scrolls_in s axis cross rs) ≡ length rs
scrolls_long s axis cross [] = refl
scrolls_long s axis cross (r ∷ rs) = ap suc (scrolls_long s axis cross rs)

abbrev axis_in : Look → Axis
axis_in (viewport axis) = axis
axis_in l = Horizontal

same_axis : (l : Look) (axis other : Axis) → l ≡ viewport axis → l ≡ viewport other → axis ≡ other
same_axis l axis other is as_other = ap axis_in (sym is ∙ as_other)

pub record InViews (s : Setting) (l : Look) (o : ℕ) (rs : List Render) (axis : Axis) (b : Bounds) (ds : List ParentData)
    (boxes : List (Option Laid)) (frames : List (Option Frame)) (found : Found) (asks : List (Option Ask)) : Type 0 where
  pub look_is : l ≡ viewport axis
  pub boxes_is : boxes ≡ map (laid_below s axis (extent_of (view_size b) (other_of axis))) rs
  pub frames_is : frames ≡ measured_with axis (extent_of (view_size b) (other_of axis)) rs boxes
  pub found_is : found ≡ found_for l o (AsBox b) frames
  pub asks_is : asks ≡ rest_for l (AsBox b) found ds frames

module _ (by : MeasuredByBoxes) (s : Setting) (l : Look) (o : ℕ) (rs : List Render) (axis : Axis) (b : Bounds) (ds : List ParentData)
    (boxes : List (Option Laid)) (frames : List (Option Frame)) (found : Found) (asks : List (Option Ask)) (p : InViews s l o rs axis b ds boxes frames found asks) where
  abbrev main : ℕ
  main = extent_of (view_size b) axis

  abbrev cross : ℕ
  cross = extent_of (view_size b) (other_of axis)

  abbrev scrolls : List ℕ
  scrolls = scrolls_in s axis cross rs

  abbrev start : ℕ
  start = start_by axis o b scrolls

  start_small : start ≤ 2 ^ 40
  start_small = omega arith

  frames_are : frames ≡ measured_with axis cross rs (boxes_of s axis cross rs)
  frames_are = p.frames_is ∙ ap (λ (x : List (Option Laid)). measured_with axis cross rs x) p.boxes_is

  founds : found ≡ record { size = no_size; start = start }
  founds =
      p.found_is ∙ ap (λ (x : Look). found_for x o (AsBox b) frames) p.look_is
      ∙ ap (λ (x : List ℕ). record { size = no_size; start = start_by axis o b x }) (ap scrolls_by frames_are ∙ scrolls_are by s axis cross rs)

  asks_are : asks ≡ views_in s axis main cross (walk_from start) rs
  asks_are =
      p.asks_is ∙ ap (λ (x : Look). rest_for x (AsBox b) found ds frames) p.look_is
      ∙ ap (λ (x : List (Option ℕ)). views_by axis main cross (walk_from found.start) x) (ap extents_by frames_are ∙ extents_are by s axis cross rs)
      ∙ ap (λ (x : Found). views_by axis main cross (walk_from x.start) (some_of scrolls)) founds

  pub views_ready : AllTasks s None asks boxes rs
  views_ready =
      subst (λ (x : List (Option Ask)). AllTasks s None x boxes rs) (sym asks_are)
      (subst (λ (x : List (Option Laid)). AllTasks s None (views_in s axis main cross (walk_from start) rs) x rs) (sym p.boxes_is)
      (views_tasks s axis main cross (walk_from start) scrolls rs start_small))

  pub views_answer : (after : List (Option Laid)) → length boxes ≡ length rs → after ≡ next_slots s None asks boxes rs → after ≡ answers_for s asks rs
  views_answer after long is =
      is ∙ ap (λ (x : List (Option Ask)). next_slots s None x boxes rs) asks_are
      ∙ views_all s axis main cross (walk_from start) scrolls boxes rs (scrolls_long s axis cross rs) long
      ∙ ap (λ (x : List (Option Ask)). answers_for s x rs) (sym asks_are)

  pub size_long : HasLengths found.size
  size_long =
      let none : HasLengths no_size = record { w = omega arith; h = omega arith } in
      subst (λ (x : Found). HasLengths x.size) (sym founds) none

  module _ (follow : FollowScrolls) (after : List (Option Laid)) (afters : after ≡ answers_for s asks rs) where
    pub frames_after : frames_in after ≡ answers_of asks (map framed (map (object s) rs))
    frames_after = ap frames_in afters ∙ answers_are asks (map (object s) rs)

    range : start + (main - 0) ≤ 2 ^ 40
    range = let long : main ≤ 2 ^ 40 = extent_small (view_size b) axis (within_lengths b (view_size b) (view_within b)) in omega (arith, long)

    gives : geometries_by (frames_given (frames_in after)) ≡ geometries_from axis main cross (walk_from start) scrolls
    gives =
        ap (λ (x : List (Option Frame)). geometries_by (frames_given x)) (frames_after ∙ ap (λ (x : List (Option Ask)). answers_of x (map framed (map (object s) rs))) asks_are)
        ∙ walk_gives follow s axis main cross (walk_from start) rs range

    pub walk_is : IsWalk l (AsBox b) found.start (frames_given (frames_in after))
    walk_is = λ other is.
        let here : IsSeen main (walk_from found.start) (geometries_by (frames_given (frames_in after))) =
        subst (λ (x : Found). IsSeen main (walk_from x.start) (geometries_by (frames_given (frames_in after)))) (sym founds)
        (subst (λ (x : List Geometry). IsSeen main (walk_from start) x) (sym gives) (seen_from axis main cross (walk_from start) scrolls)) in
        subst (λ (x : Axis). IsSeen (extent_of (view_size b) x) (walk_from found.start) (geometries_by (frames_given (frames_in after)))) (same_axis l axis other p.look_is is) here

    pub view_is : (need : NeedScrolls) (n : ℕ) (d : ParentData) (k : ℕ) (node : Render) (result : Laid) → node ≡ render n l d o k (renders_of rs)
        → result ≡ laid_by s n l (ruling_for s l k (AsBox b) found ds (frames_in after)) (present after) → result ≡ (object s node).in_bounds b
    view_is need n d k node result is e =
        let cs = map (object s) rs in
        let vs = views_in s axis main cross (walk_from start) rs in
        let law : viewport_rule axis o b cs ≡ done_with (view_makes axis b start (geometries_from axis main cross (walk_from start) scrolls)) (laid_for vs cs) =
        subst (λ (os : List Object). let ns = map (λ (c : Object). (geometry_in (c.in_view (unseen axis cross))).scroll) os in
        let st = start_by axis o b ns in
        viewport_rule axis o b os ≡ done_with (view_makes axis b st (geometries_from axis main cross (walk_from st) ns)) (laid_for (views_by axis main cross (walk_from st) (some_of ns)) os))
        (objects_map s rs) (need s axis o b (renders_of rs)) in
        e
        ∙ ap (λ (x : Look). laid_by s n x (ruling_for s x k (AsBox b) found ds (frames_in after)) (present after)) p.look_is
        ∙ ap (λ (x : Found). laid_box s n (viewport axis) b (done_with (view_makes axis b x.start (geometries_by (frames_given (frames_in after)))) (present after))) founds
        ∙ ap (λ (x : List Geometry). laid_box s n (viewport axis) b (done_with (view_makes axis b start x) (present after))) gives
        ∙ ap (λ (x : List (Option Laid)). laid_box s n (viewport axis) b (done_with (view_makes axis b start (geometries_from axis main cross (walk_from start) scrolls)) (present x)))
        (afters ∙ ap (λ (x : List (Option Ask)). round x (nothing cs) cs) asks_are)
        ∙ ap (λ (x : Done). laid_box s n (viewport axis) b x) (sym law)
        ∙ sym (object_box s n (viewport axis) d o k rs b)
        ∙ ap (λ (x : Look). (object s (render n x d o k (renders_of rs))).in_bounds b) (sym p.look_is)
        ∙ ap (λ (r : Render). (object s r).in_bounds b) (sym is)
