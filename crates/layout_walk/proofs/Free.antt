-- What was laid out runs no rule again, in the same bounds; and so no rule is run twice where slivers are measured first.
use Rattle.std.proofs.Common.{◌≡◌, ap, refl, sym, subst, ◌∙◌, inl, inr, ℕ, ◌+◌, ◌-◌, ◌≤◌, ◌==◌, Bool, true, false, ◌||◌, ◌&&◌, not, cond, Option, Some, None, option_map, List, [], ◌∷◌, arith}
use Rattle.std.proofs.lemmas.Bool.{cases_Bool}
use Rattle.fx_geom.specs.declared.shapes.Axis.{Axis}
use Rattle.fx_geom.specs.declared.shapes.Insets.{Insets}
use Rattle.fx_geom.specs.Insets.{other_of, along}
use Rattle.fx_handles.specs.declared.Handle.{Handle}
use Rattle.node_tree.specs.Forest.{Forest}
use Rattle.node_tree.specs.Forest.Forest.{none, tree}
use Rattle.node_tree.proofs.ForestLemmas.{same_Some}
use Rattle.sliver_layout.specs.declared.protocol.SliverBounds.{SliverBounds}
use Rattle.sliver_layout.specs.Slivers.{padded_of}
use Rattle.widget_model.specs.Look.{Look, sliver_to_box, sliver_padding}
use Rattle.plain_tree.specs.declared.laid.Frame.{Frame}
use Rattle.layout_form.specs.declared.asks.Ask.{Ask}
use Rattle.layout_form.specs.declared.asks.Ask.TheVariants.{AsBox, AsSliver}
use Rattle.layout_form.specs.Object.{Setting}
use Rattle.layout_form.specs.SliverRule.{box_bounds}
use Rattle.layout_walk.specs.Node.{LayoutNode, member, ask_in, asked}
use Rattle.layout_walk.specs.Rule.{LayoutParts}
use Rattle.layout_walk.specs.Full.{asks_at, objects}
use Rattle.layout_walk.specs.Here.{Backs, IsHeldBack, IsQuiet, AreQuiet, outer_back, back_in}
use Rattle.layout_walk.specs.Walk.{LaysOut, kept_ask, kept_asks}
use Rattle.layout_walk.specs.Asking.{same_ask, same_axis, has_frame, asked_so, is_due}
use Rattle.layout_walk.specs.Flush.{held_runs, one_runs, tree_runs, runs}
use Rattle.layout_walk.specs.Rules.{parts_of, holds_in}
use Rattle.layout_walk.specs.Measure.{Measured, boxed, padded, nothing, measured_below, measured_in, views, is_open, box_in, cross_in, opened, FirstLaid, MeasuredBy, FirstMeasured, AreMeasured, measured_runs, first_runs, measure_runs, ViewEach}
use Rattle.layout_walk.proofs.Standing.{false_true}
use Rattle.layout_walk.proofs.Asks.{true_and, axis_self, number_self, same_ask_is, same_frame_self}
use Rattle.layout_walk.proofs.Keeping.{visited}
use Rattle.layout_walk.proofs.Counting.{no_runs, not_due}
use Rattle.layout_walk.proofs.Measuring.{IsMeasured, open_by, box_look, padding_look, to_box_asks, padding_asks, same_box}

-- ---- again

-- each tree that is asked is quiet, and is asked as in its last layout
abbrev AgainAs : LayoutParts → Bool → Option Ask → LayoutNode → Forest LayoutNode → Type 0
AgainAs P outer None v kids = Unit {0}
AgainAs P outer (Some ask) v kids = (asked v ≡ Some ask) × IsQuiet P (back_in P outer) v (AreQuiet P (back_in P outer) kids)

has_it : (v : LayoutNode) (o : Option Frame) (frame : Frame) → v.frame ≡ Some frame → o ≡ Some frame → has_frame v.frame o ≡ true
has_it v o frame is fixed = ap (λ (x : Option Frame). has_frame x o) is ∙ ap (λ (x : Option Frame). has_frame (Some frame) x) fixed ∙ same_frame_self frame

held_free : (n : ℕ) (P : LayoutParts) (due : Bool) (v : LayoutNode) (ask : Ask) (kids : Forest LayoutNode) (below : List (Option Ask) → ℕ)
    → has_frame v.frame (P.fixed (member v) ask) ≡ true → one_runs n P due true v ask kids below ≡ 0
held_free n P true v ask kids below has = ap (held_runs n) has
held_free n P false v ask kids below has = refl

shut_free : (n : ℕ) (P : LayoutParts) (held : Bool) (v : LayoutNode) (ask : Ask) (kids : Forest LayoutNode) (below : List (Option Ask) → ℕ)
    → below (kept_asks kids) ≡ 0 → one_runs n P false held v ask kids below ≡ 0
shut_free n P true v ask kids below free = refl
shut_free n P false v ask kids below free = free

-- one that is held back
back_free : (n : ℕ) (P : LayoutParts) (outer : Bool) (v : LayoutNode) (ask : Ask) (kids : Forest LayoutNode) (below : List (Option Ask) → ℕ)
    → asked v ≡ Some ask → IsHeldBack P (back_in P outer) v → tree_runs n P outer (Some ask) v kids below ≡ 0
back_free n P false v ask kids below is held = absurd (false_true held.holds)
back_free n P true v ask kids below is held =
    let holds : P.holds v.look ask ≡ true = sym (ap (λ (o : Option Ask). outer_back P v.look o) is) ∙ held.holds in
    let says : ask_in held.firm.frame ≡ ask = same_Some (sym (ap (λ (o : Option Frame). option_map ask_in o) held.firm.stored) ∙ is) in
    ap (λ (b : Bool). one_runs n P (is_due v ask) b v ask kids below) holds
    ∙ held_free n P (is_due v ask) v ask kids below
    (has_it v (P.fixed (member v) ask) held.firm.frame held.firm.stored (sym (ap (λ (a : Ask). P.fixed (member v) a) says) ∙ held.firm.fixed))

clear_free : (n : ℕ) (P : LayoutParts) (outer : Bool) (v : LayoutNode) (ask : Ask) (kids : Forest LayoutNode) (below : List (Option Ask) → ℕ)
    → asked v ≡ Some ask → v.needs_layout ≡ false → below (kept_asks kids) ≡ 0 → tree_runs n P outer (Some ask) v kids below ≡ 0
clear_free n P outer v ask kids below is clear free =
    ap (λ (b : Bool). one_runs n P b (outer && P.holds v.look ask) v ask kids below) (not_due v.needs_layout (asked v) ask clear is)
    ∙ shut_free n P (outer && P.holds v.look ask) v ask kids below free

one_again : (n : ℕ) (P : LayoutParts) (outer : Bool) (v : LayoutNode) (ask : Ask) (kids : Forest LayoutNode) (below : List (Option Ask) → ℕ)
    → asked v ≡ Some ask → IsQuiet P (back_in P outer) v (AreQuiet P (back_in P outer) kids) → (AreQuiet P (back_in P outer) kids → below (kept_asks kids) ≡ 0)
    → tree_runs n P outer (Some ask) v kids below ≡ 0
one_again n P outer v ask kids below is (inl held) free = back_free n P outer v ask kids below is held
one_again n P outer v ask kids below is (inr clear) free = clear_free n P outer v ask kids below is clear.0 (free clear.1)

-- the trees that are visited
kept_again : (n : ℕ) (P : LayoutParts) (outer : Bool) (v : LayoutNode) (kids : Forest LayoutNode) (o : Option Ask) (below : List (Option Ask) → ℕ) → kept_ask v ≡ o
    → (v.shown ≡ true → IsQuiet P (back_in P outer) v (AreQuiet P (back_in P outer) kids)) → (AreQuiet P (back_in P outer) kids → below (kept_asks kids) ≡ 0)
    → tree_runs n P outer o v kids below ≡ 0
kept_again n P outer v kids None below e quiet free = refl
kept_again n P outer v kids (Some ask) below e quiet free = let is = visited v ask e in one_again n P outer v ask kids below is.1 (quiet is.0) free

pub kept_free : (q : Handle → ℕ) (P : LayoutParts) (outer : Bool) (f : Forest LayoutNode) → AreQuiet P (back_in P outer) f → runs q P outer (kept_asks f) f ≡ 0
unfolding runs
kept_free q P outer none quiet = refl
kept_free q P outer (tree h v kids rest) quiet =
    let here = kept_again (q h) P outer v kids (kept_ask v) (λ xs. runs q P outer xs kids) refl quiet.0 (kept_free q P outer kids) in
    let more = kept_free q P outer rest quiet.1 in
    omega arith

-- a node that was laid out so
pub again_free : (q : Handle → ℕ) (P : LayoutParts) (outer : Bool) (ask : Ask) (v : LayoutNode) (kids : Forest LayoutNode) (h : Handle) (w : LayoutNode) (below rest : Forest LayoutNode)
    → LaysOut P (back_in P outer) ask v kids w below → runs q P outer (Some ask ∷ []) (tree h w below rest) ≡ 0
unfolding runs
again_free q P outer ask v kids h w below rest lays =
    let here = one_again (q h) P outer w ask below (λ xs. runs q P outer xs below) lays.asked lays.quiet (kept_free q P outer below) in
    let more = no_runs q P outer rest in
    omega arith

-- ---- slivers that are measured first

unlike_view : (axis : Axis) (cross : ℕ) (o : Option Ask) (b : SliverBounds) → b.axis ≡ axis → b.cross ≡ cross → views axis cross o ≡ false → asked_so o (AsSliver b) ≡ false
unlike_view axis cross None b e f other = refl
unlike_view axis cross (Some (AsBox a)) b e f other = refl
unlike_view axis cross (Some (AsSliver a)) b e f other = elim (cases_Bool (same_ask (AsSliver a) (AsSliver b))) [
  | inl same ↦
      let is : AsSliver a ≡ AsSliver b = same_ask_is (AsSliver a) (AsSliver b) same in
      absurd (false_true (sym other ∙ ap (λ (x : Ask). views axis cross (Some x)) is ∙ seen axis cross b e f))
  | inr differs ↦ differs
]
  where
    seen : (axis : Axis) (cross : ℕ) (b : SliverBounds) → b.axis ≡ axis → b.cross ≡ cross → views axis cross (Some (AsSliver b)) ≡ true
    seen axis cross b e f =
        ap (λ (x : Axis). same_axis x axis && b.cross == cross) e ∙ ap (λ (n : ℕ). same_axis axis axis && n == cross) f
        ∙ true_and (same_axis axis axis) (cross == cross) (axis_self axis) (number_self cross)

-- an open sliver is due in each view
open_due : (axis : Axis) (cross : ℕ) (v : LayoutNode) (b : SliverBounds) → b.axis ≡ axis → b.cross ≡ cross → is_open axis cross v ≡ true → is_due v (AsSliver b) ≡ true
open_due axis cross v b e f opens = elim (cases_Bool v.needs_layout) [
  | inl flag ↦ ap (λ (x : Bool). x || not (asked_so (asked v) (AsSliver b))) flag
  | inr clear ↦
      let out : views axis cross (asked v) ≡ false = not_true (views axis cross (asked v)) (sym (ap (λ (x : Bool). x || not (views axis cross (asked v))) clear) ∙ opens) in
      ap (λ (x : Bool). x || not (asked_so (asked v) (AsSliver b))) clear ∙ ap not (unlike_view axis cross (asked v) b e f out)
]
  where
    not_true : (b : Bool) → not b ≡ true → b ≡ false
    not_true true e = absurd (false_true e)
    not_true false e = refl

open_of : (b : Bool) (m n : Measured) → cond b m nothing ≡ n → IsMeasured n → b ≡ true
open_of true m n e is = refl
open_of false m n e is = absurd (subst (λ (x : Measured). IsMeasured x) (sym e) is)

-- what a sliver runs that is due and asks its first child alone
run_runs : (q : Handle → ℕ) (n : ℕ) (P : LayoutParts) (outer : Bool) (v : LayoutNode) (view ask : Ask) (kids : Forest LayoutNode) → is_due v view ≡ true → P.holds v.look view ≡ false
    → asks_at P v view kids (objects P kids) ≡ Some ask ∷ []
    → tree_runs n P outer (Some view) v kids (λ xs. runs q P outer xs kids) ≡ n + runs q P outer (Some ask ∷ []) kids
run_runs q n P outer v view ask kids due free asks =
    ap (λ (b : Bool). one_runs n P b (outer && P.holds v.look view) v view kids (λ xs. runs q P outer xs kids)) due
    ∙ ap (λ (b : Bool). one_runs n P true b v view kids (λ xs. runs q P outer xs kids)) (ap (λ (b : Bool). outer && b) free ∙ and_false outer)
    ∙ ap (λ (xs : List (Option Ask)). n + runs q P outer xs kids) asks
  where
    and_false : (b : Bool) → (b && false) ≡ false
    and_false true = refl
    and_false false = refl

sliver_holds : (look : Look) (view : Ask) (m : Measured) → measured_below look ≡ m → IsMeasured m → holds_in look view ≡ false
sliver_holds sliver_to_box view m e is = refl
sliver_holds (sliver_padding left top right bottom) view m e is = refl
sliver_holds look view m e is = absurd (subst (λ (x : Measured). IsMeasured x) (sym e) is)

module _ (q : Handle → ℕ) (s : Setting) (outer : Bool) where
  abbrev P_of : LayoutParts
  P_of = parts_of s

  abbrev back_of : Backs
  back_of = back_in (parts_of s) outer

  box_measured : (axis : Axis) (cross : ℕ) (kids below : Forest LayoutNode) → FirstLaid P_of back_of (box_in axis cross) kids below → runs q P_of outer (Some (box_in axis cross) ∷ []) below ≡ 0
  unfolding runs
  box_measured axis cross none none laid = refl
  box_measured axis cross none (tree k w below rest) laid = absurd laid
  box_measured axis cross (tree h v kids more) none laid = absurd laid
  box_measured axis cross (tree h v kids more) (tree k w below rest) laid = again_free q P_of outer (box_in axis cross) v kids k w below rest laid.1

  abbrev SliverRuns : ℕ → SliverBounds → LayoutNode → Forest LayoutNode → ℕ
  SliverRuns n b v kids = tree_runs n P_of outer (Some (AsSliver b)) v kids (λ xs. runs q P_of outer xs kids)

  -- what the first tree runs, measured and then laid out in any view
  abbrev FirstBound : Axis → ℕ → Forest LayoutNode → Forest LayoutNode → Type 0
  FirstBound axis cross f g = (b : SliverBounds) → b.axis ≡ axis → b.cross ≡ cross
      → first_runs q P_of outer axis cross f + runs q P_of outer (Some (AsSliver b) ∷ []) g ≤ runs q P_of outer (Some (AsSliver b) ∷ []) f

  one_bound : (n : ℕ) (axis : Axis) (cross : ℕ) (v : LayoutNode) (kids : Forest LayoutNode) (w : LayoutNode) (below : Forest LayoutNode)
      → (inner : ℕ → Type 0) → ((c : ℕ) → inner c → FirstBound axis c kids below)
      → (m : Measured) → measured_in axis cross v ≡ m → MeasuredBy P_of back_of axis cross m v kids w below inner
      → (b : SliverBounds) → b.axis ≡ axis → b.cross ≡ cross
      → measured_runs q P_of outer axis cross m kids (λ c. first_runs q P_of outer axis c kids) + SliverRuns n b w below ≤ SliverRuns n b v kids
  one_bound n axis cross v kids w below inner first boxed e is b x y =
      let opens = open_of (is_open axis cross v) (measured_below v.look) boxed e tt in
      let kind = open_by (is_open axis cross v) (measured_below v.look) boxed e tt in
      let look = box_look v.look kind in
      let box : AsBox (box_bounds b) ≡ box_in axis cross = same_box axis cross b x y in
      let asks = λ (u : LayoutNode) (f : Forest LayoutNode) (is : u.look ≡ sliver_to_box).
      to_box_asks s u b f (objects P_of f) is ∙ ap (λ (a : Ask). Some a ∷ []) box in
      let before : SliverRuns n b v kids ≡ n + runs q P_of outer (Some (box_in axis cross) ∷ []) kids =
      run_runs q n P_of outer v (AsSliver b) (box_in axis cross) kids (open_due axis cross v b x y opens) (sliver_holds v.look (AsSliver b) boxed kind tt) (asks v kids look) in
      let after : SliverRuns n b (opened v) below ≡ n + runs q P_of outer (Some (box_in axis cross) ∷ []) below =
      run_runs q n P_of outer (opened v) (AsSliver b) (box_in axis cross) below refl (sliver_holds v.look (AsSliver b) boxed kind tt) (asks (opened v) below look) in
      let free = box_measured axis cross kids below is.1 in
      let same : SliverRuns n b w below ≡ SliverRuns n b (opened v) below = ap (λ (u : LayoutNode). SliverRuns n b u below) is.0 in
      omega arith
  one_bound n axis cross v kids w below inner first (padded i) e is b x y =
      let opens = open_of (is_open axis cross v) (measured_below v.look) (padded i) e tt in
      let kind = open_by (is_open axis cross v) (measured_below v.look) (padded i) e tt in
      let look = padding_look v.look i kind in
      let asks = λ (u : LayoutNode) (f : Forest LayoutNode) (is : u.look ≡ sliver_padding look.left look.top look.right look.bottom).
      padding_asks s u b f (objects P_of f) look.left look.top look.right look.bottom is ∙ ap (λ (j : Insets). Some (AsSliver (padded_of b j)) ∷ []) look.insets in
      let before : SliverRuns n b v kids ≡ n + runs q P_of outer (Some (AsSliver (padded_of b i)) ∷ []) kids =
      run_runs q n P_of outer v (AsSliver b) (AsSliver (padded_of b i)) kids (open_due axis cross v b x y opens) (sliver_holds v.look (AsSliver b) (padded i) kind tt) (asks v kids look.look_is) in
      let after : SliverRuns n b (opened v) below ≡ n + runs q P_of outer (Some (AsSliver (padded_of b i)) ∷ []) below =
      run_runs q n P_of outer (opened v) (AsSliver b) (AsSliver (padded_of b i)) below refl (sliver_holds v.look (AsSliver b) (padded i) kind tt) (asks (opened v) below look.look_is) in
      let child = first (cross_in axis cross i) is.1 (padded_of b i) x (ap (λ (n : ℕ). n - along i (other_of b.axis)) y ∙ ap (λ (a : Axis). cross - along i (other_of a)) x) in
      let same : SliverRuns n b w below ≡ SliverRuns n b (opened v) below = ap (λ (u : LayoutNode). SliverRuns n b u below) is.0 in
      omega arith
  one_bound n axis cross v kids w below inner first nothing e is b x y =
      let same : SliverRuns n b w below ≡ SliverRuns n b v kids =
      ap (λ (u : LayoutNode). SliverRuns n b u below) (sym is.0) ∙ ap (λ (f : Forest LayoutNode). SliverRuns n b v f) (sym is.1) in
      omega arith

  first_bound : (axis : Axis) (cross : ℕ) (f g : Forest LayoutNode) → FirstMeasured P_of back_of axis cross f g → FirstBound axis cross f g
  unfolding runs
  first_bound axis cross none none m = λ b x y. omega arith
  first_bound axis cross none (tree k w below rest) m = absurd m
  first_bound axis cross (tree h v kids more) none m = absurd m
  first_bound axis cross (tree h v kids more) (tree k w below rest) m = λ b x y.
      let here = one_bound (q h) axis cross v kids w below (λ c. FirstMeasured P_of back_of axis c kids below) (λ c. first_bound axis c kids below) (measured_in axis cross v) refl m.1 b x y in
      let name = ap (λ (z : Handle). SliverRuns (q z) b w below) m.0 in
      let more_free = no_runs q P_of outer more in
      let rest_free = no_runs q P_of outer rest in
      omega arith

  pub measured_bound : (axis : Axis) (cross : ℕ) (asks : List (Option Ask)) (f g : Forest LayoutNode) → ViewEach axis cross asks f → AreMeasured P_of back_of axis cross f g
      → measure_runs q P_of outer axis cross f + runs q P_of outer asks g ≤ runs q P_of outer asks f
  unfolding runs
  measured_bound axis cross asks none none views m = omega arith
  measured_bound axis cross asks none (tree k w below rest) views m = absurd m
  measured_bound axis cross asks (tree h v kids more) none views m = absurd m
  measured_bound axis cross [] (tree h v kids more) (tree k w below rest) views m = absurd views
  measured_bound axis cross (None ∷ asks) (tree h v kids more) (tree k w below rest) views m = absurd views
  measured_bound axis cross (Some (AsBox b) ∷ asks) (tree h v kids more) (tree k w below rest) views m = absurd views.0
  measured_bound axis cross (Some (AsSliver b) ∷ asks) (tree h v kids more) (tree k w below rest) views m =
      let here = one_bound (q h) axis cross v kids w below (λ c. FirstMeasured P_of back_of axis c kids below) (λ c. first_bound axis c kids below) (measured_in axis cross v) refl m.1 b views.0.0 views.0.1 in
      let name = ap (λ (z : Handle). SliverRuns (q z) b w below) m.0 in
      let next = measured_bound axis cross asks more rest views.1 m.2 in
      omega arith
