-- Slivers that are measured are, to full layout, as before.
use Rattle.std.proofs.Common.{◌≡◌, ap, refl, sym, subst, ◌∙◌, ℕ, ◌-◌, Bool, true, false, cond, Option, Some, None, List, [], ◌∷◌, inl, inr}
use Rattle.std.proofs.lemmas.Bool.{cases_Bool}
use Rattle.layout_walk.proofs.Correcting.{either_way, not_held, corrected_self, node_trans}
use Rattle.fx_geom.specs.declared.lengths.Len.TheVariants.{Finite, Unbounded}
use Rattle.fx_geom.specs.declared.shapes.Axis.{Axis}
use Rattle.fx_geom.specs.Along.{bounds_along}
use Rattle.fx_geom.specs.declared.shapes.Insets.{Insets}
use Rattle.fx_geom.specs.Insets.{other_of, along}
use Rattle.fx_handles.specs.declared.Handle.{Handle}
use Rattle.node_tree.specs.Forest.{Forest}
use Rattle.node_tree.specs.Forest.Forest.{none, tree}
use Rattle.sliver_layout.specs.declared.protocol.SliverBounds.{SliverBounds}
use Rattle.sliver_layout.specs.Slivers.{padded_of}
use Rattle.widget_model.specs.Look.{Look, sliver_to_box, sliver_padding}
use Rattle.plain_tree.specs.declared.laid.Frame.{Frame}
use Rattle.layout_form.specs.declared.asks.Ask.{Ask}
use Rattle.layout_form.specs.declared.asks.Ask.TheVariants.{AsBox, AsSliver}
use Rattle.layout_form.specs.Object.{Setting}
use Rattle.layout_form.specs.Single.{insets_of}
use Rattle.layout_form.specs.SliverRule.{box_bounds}
use Rattle.layout_walk.specs.Node.{LayoutNode, member, tellings}
use Rattle.layout_walk.specs.Rule.{LayoutParts, asks_by, Lawful}
use Rattle.layout_walk.specs.Full.{asks_at, objects}
use Rattle.layout_walk.specs.Here.{Here, HereAll, Backs, HoldsOnly, back_in}
use Rattle.layout_walk.specs.Walk.{SameMembers, LaysOut, Round, IsLaid, AreLaid, AreCorrected, IsCorrected}
use Rattle.layout_walk.specs.Rules.{parts_of, holds_in}
use Rattle.layout_walk.specs.Measure.{Measured, boxed, padded, nothing, measured_below, measured_in, box_in, cross_in, opened, FirstLaid, MeasuredBy, FirstMeasured, AreMeasured, IsReadied, AreReady, AsksView, ViewEach, is_open}
use Rattle.layout_walk.proofs.Same.{same_self}
use Rattle.layout_walk.proofs.Standing.{false_true}

ready_self : (P : LayoutParts) (back : Backs) (axis : Axis) (cross : ℕ) (v : LayoutNode) (kids : Forest LayoutNode) (w : LayoutNode) (below : Forest LayoutNode)
    → Here P v kids → HereAll P kids → (v ≡ w) × (kids ≡ below) → IsReadied P back axis cross v kids w below
ready_self P back axis cross v kids w below here all same =
    subst (λ (f : Forest LayoutNode). IsReadied P back axis cross v kids w f) same.1
    (subst (λ (x : LayoutNode). IsReadied P back axis cross v kids x kids) same.0
    (record { member = refl; same = same_self kids; here = here; all = all; corrected = λ b e f. (inl refl, either_way (back v.look (Some (AsSliver b))) refl (corrected_self P back (asks_at P v (AsSliver b) kids (objects P kids)) kids)) }))

opened_here : (P : LayoutParts) (v : LayoutNode) (kids : Forest LayoutNode) → Here P (opened v) kids
opened_here P v kids = record {
  consistent = λ clear. absurd (false_true (sym clear));
  closed = λ clear. absurd (false_true (sym clear));
  marked = λ clear. absurd (false_true (sym clear));
}

-- a sliver that asks its first child alone
open_corrected : (P : LayoutParts) (back : Backs) (v : LayoutNode) (view : Ask) (ask : Ask) (h : Handle) (u w : LayoutNode) (kids below more : Forest LayoutNode) → back v.look (Some view) ≡ false
    → asks_at P v view (tree h u kids more) (objects P (tree h u kids more)) ≡ Some ask ∷ [] → member u ≡ member w → IsCorrected P back ask u kids w below
    → IsCorrected P back view v (tree h u kids more) (opened v) (tree h w below more)
open_corrected P back v view ask h u w kids below more free asks is corrected = (
  inl refl,
  not_held (tree h w below more ≡ tree h u kids more) (back v.look (Some view)) free (subst (λ (xs : List (Option Ask)). AreCorrected P back xs (tree h u kids more) (tree h w below more)) (sym asks) (refl, is, corrected, corrected_self P back [] more)),
)

-- ---- what a sliver asks of its children

pub to_box_asks : (s : Setting) (v : LayoutNode) (b : SliverBounds) (kids : Forest LayoutNode) (gs : List (Ask → Frame)) → v.look ≡ sliver_to_box
    → asks_at (parts_of s) v (AsSliver b) kids gs ≡ Some (AsBox (box_bounds b)) ∷ []
unfolding asks_by
to_box_asks s v b kids gs is =
    ap (λ (l : Look). asks_by (parts_of s) (record (member v) { look = l }) v.scroll (AsSliver b) 0 (tellings kids) gs) is

pub padding_asks : (s : Setting) (v : LayoutNode) (b : SliverBounds) (kids : Forest LayoutNode) (gs : List (Ask → Frame)) (left top right bottom : ℕ) → v.look ≡ sliver_padding left top right bottom
    → asks_at (parts_of s) v (AsSliver b) kids gs ≡ Some (AsSliver (padded_of b (insets_of left top right bottom))) ∷ []
unfolding asks_by
padding_asks s v b kids gs left top right bottom is =
    ap (λ (l : Look). asks_by (parts_of s) (record (member v) { look = l }) v.scroll (AsSliver b) 0 (tellings kids) gs) is

-- ---- which slivers are measured

abbrev pub IsMeasured : Measured → Type 0
IsMeasured boxed = Unit {0}
IsMeasured (padded i) = Unit {0}
IsMeasured nothing = ⊥

pub open_by : (b : Bool) (m n : Measured) → cond b m nothing ≡ n → IsMeasured n → m ≡ n
open_by true m n e is = e
open_by false m n e is = absurd (subst (λ (x : Measured). IsMeasured x) (sym e) is)

pub nothing_boxed : nothing ≡ boxed → ⊥
nothing_boxed e = cc

padded_boxed : (i : Insets) → padded i ≡ boxed → ⊥
padded_boxed i e = cc

pub nothing_padded : (i : Insets) → nothing ≡ padded i → ⊥
nothing_padded i e = cc

boxed_padded : (i : Insets) → boxed ≡ padded i → ⊥
boxed_padded i e = cc

same_padded : (i j : Insets) → padded i ≡ padded j → i ≡ j
same_padded i j e = cc

pub box_look : (look : Look) → measured_below look ≡ boxed → look ≡ sliver_to_box
box_look sliver_to_box e = refl
box_look (sliver_padding left top right bottom) e = absurd (padded_boxed (insets_of left top right bottom) e)
box_look look e = absurd (nothing_boxed e)

pub record IsPadding (look : Look) (i : Insets) : Type 0 where
  pub left : ℕ
  pub top : ℕ
  pub right : ℕ
  pub bottom : ℕ
  pub look_is : look ≡ sliver_padding left top right bottom
  pub insets : insets_of left top right bottom ≡ i

pub padding_look : (look : Look) (i : Insets) → measured_below look ≡ padded i → IsPadding look i
padding_look (sliver_padding left top right bottom) i e =
    record { left = left; top = top; right = right; bottom = bottom; look_is = refl; insets = same_padded (insets_of left top right bottom) i e }
padding_look sliver_to_box i e = absurd (boxed_padded i e)
padding_look look i e = absurd (nothing_padded i e)

pub same_box : (axis : Axis) (cross : ℕ) (b : SliverBounds) → b.axis ≡ axis → b.cross ≡ cross → AsBox (box_bounds b) ≡ box_in axis cross
same_box axis cross b e f =
    ap (λ (x : Axis). AsBox (bounds_along x 0 Unbounded b.cross (Finite b.cross))) e ∙ ap (λ (n : ℕ). AsBox (bounds_along axis 0 Unbounded n (Finite n))) f

-- ---- no such sliver is held back

only_free : (s : Setting) (back : Backs) → HoldsOnly (parts_of s) back → (look : Look) (ask : Ask) → holds_in look ask ≡ false → back look (Some ask) ≡ false
only_free s back only look ask other = elim (cases_Bool (back look (Some ask))) [
  | inl held ↦ absurd (false_true (sym other ∙ only look ask held))
  | inr free ↦ free
]

box_free : (s : Setting) (back : Backs) → HoldsOnly (parts_of s) back → (v : LayoutNode) → v.look ≡ sliver_to_box → (b : SliverBounds) → back v.look (Some (AsSliver b)) ≡ false
box_free s back only v is b = only_free s back only v.look (AsSliver b) (ap (λ (l : Look). holds_in l (AsSliver b)) is)

padding_free : (s : Setting) (back : Backs) → HoldsOnly (parts_of s) back → (v : LayoutNode) (i : Insets) → IsPadding v.look i → (b : SliverBounds) → back v.look (Some (AsSliver b)) ≡ false
padding_free s back only v i is b = only_free s back only v.look (AsSliver b) (ap (λ (l : Look). holds_in l (AsSliver b)) is.look_is)

pub back_only : (P : LayoutParts) (outer : Bool) → HoldsOnly P (back_in P outer)
back_only P true look ask is = is
back_only P false look ask is = absurd (false_true is)

-- ---- slivers that were measured

abbrev pub FirstReady : LayoutParts → Backs → Axis → ℕ → Forest LayoutNode → Forest LayoutNode → Type 0
FirstReady P back axis cross none none = Unit {0}
FirstReady P back axis cross none (tree k w below rest) = ⊥
FirstReady P back axis cross (tree h v kids more) none = ⊥
FirstReady P back axis cross (tree h v kids more) (tree k w below rest) = (h ≡ k) × IsReadied P back axis cross v kids w below × (more ≡ rest)

-- a sliver that is opened, above its first child
open_ready : (P : LayoutParts) → Lawful P → (back : Backs) (axis : Axis) (cross : ℕ) (v : LayoutNode) (h : Handle) (u w : LayoutNode) (kids below more : Forest LayoutNode)
    → ((b : SliverBounds) → back v.look (Some (AsSliver b)) ≡ false) → HereAll P (tree h w below more) → SameMembers (tree h u kids more) (tree h w below more)
    → ((b : SliverBounds) → b.axis ≡ axis → b.cross ≡ cross → (ask : Ask)
    × (asks_at P v (AsSliver b) (tree h u kids more) (objects P (tree h u kids more)) ≡ Some ask ∷ []) × IsCorrected P back ask u kids w below)
    → IsReadied P back axis cross v (tree h u kids more) (opened v) (tree h w below more)
open_ready P law back axis cross v h u w kids below more free all same asks = record {
  member = refl;
  same = same;
  here = opened_here P v (tree h w below more);
  all = all;
  corrected = λ b e f. let a = asks b e f in open_corrected P back v (AsSliver b) a.0 h u w kids below more (free b) a.1 same.1 a.2;
}

empty_ready : (P : LayoutParts) (back : Backs) (axis : Axis) (cross : ℕ) (v : LayoutNode) → IsReadied P back axis cross v none (opened v) none
empty_ready P back axis cross v = record { member = refl; same = tt; here = opened_here P v none; all = tt; corrected = λ b e f. (inl refl, either_way (back v.look (Some (AsSliver b))) refl (corrected_self P back (asks_at P v (AsSliver b) none (objects P none)) none)) }

box_ready : (s : Setting) → Lawful (parts_of s) → (back : Backs) → HoldsOnly (parts_of s) back → (axis : Axis) (cross : ℕ) (v : LayoutNode) (kids below : Forest LayoutNode) → HereAll (parts_of s) kids
    → v.look ≡ sliver_to_box → FirstLaid (parts_of s) back (box_in axis cross) kids below → IsReadied (parts_of s) back axis cross v kids (opened v) below
box_ready s law back only axis cross v none none all is laid = empty_ready (parts_of s) back axis cross v
box_ready s law back only axis cross v none (tree j u under rest) all is laid = absurd laid
box_ready s law back only axis cross v (tree h u kids more) none all is laid = absurd laid
box_ready s law back only axis cross v (tree h u kids more) (tree j w below rest) all is laid =
    subst (λ (f : Forest LayoutNode). IsReadied (parts_of s) back axis cross v (tree h u kids more) (opened v) (tree j w below f)) laid.2
    (subst (λ (i : Handle). IsReadied (parts_of s) back axis cross v (tree h u kids more) (opened v) (tree i w below more)) laid.0
    (open_ready (parts_of s) law back axis cross v h u w kids below more (box_free s back only v is) (laid.1.here, laid.1.all, all.2) (refl, laid.1.member, laid.1.same, same_self more)
    (λ b e f. (
      box_in axis cross,
      to_box_asks s v b (tree h u kids more) (objects (parts_of s) (tree h u kids more)) is ∙ ap (λ (a : Ask). Some a ∷ []) (same_box axis cross b e f),
      laid.1.corrected,
    ))))

padded_ready : (s : Setting) → Lawful (parts_of s) → (back : Backs) → HoldsOnly (parts_of s) back → (axis : Axis) (cross : ℕ) (v : LayoutNode) (kids below : Forest LayoutNode) → HereAll (parts_of s) kids
    → (i : Insets) → IsPadding v.look i → FirstReady (parts_of s) back axis (cross_in axis cross i) kids below → IsReadied (parts_of s) back axis cross v kids (opened v) below
padded_ready s law back only axis cross v none none all i is ready = empty_ready (parts_of s) back axis cross v
padded_ready s law back only axis cross v none (tree j u under rest) all i is ready = absurd ready
padded_ready s law back only axis cross v (tree h u kids more) none all i is ready = absurd ready
padded_ready s law back only axis cross v (tree h u kids more) (tree j w below rest) all i is ready =
    subst (λ (f : Forest LayoutNode). IsReadied (parts_of s) back axis cross v (tree h u kids more) (opened v) (tree j w below f)) ready.2
    (subst (λ (k : Handle). IsReadied (parts_of s) back axis cross v (tree h u kids more) (opened v) (tree k w below more)) ready.0
    (open_ready (parts_of s) law back axis cross v h u w kids below more (padding_free s back only v i is) (ready.1.here, ready.1.all, all.2) (refl, ready.1.member, ready.1.same, same_self more)
    (λ b e f. (
      AsSliver (padded_of b i),
      padding_asks s v b (tree h u kids more) (objects (parts_of s) (tree h u kids more)) is.left is.top is.right is.bottom is.look_is
          ∙ ap (λ (k : Insets). Some (AsSliver (padded_of b k)) ∷ []) is.insets,
      ready.1.corrected (padded_of b i) e (ap (λ (n : ℕ). n - along i (other_of b.axis)) f ∙ ap (λ (x : Axis). cross - along i (other_of x)) e),
    ))))

one_ready : (s : Setting) → Lawful (parts_of s) → (back : Backs) → HoldsOnly (parts_of s) back → (axis : Axis) (cross : ℕ) (v : LayoutNode) (kids : Forest LayoutNode) (w : LayoutNode) (below : Forest LayoutNode)
    → Here (parts_of s) v kids → HereAll (parts_of s) kids
    → (inner : ℕ → Type 0) → ((c : ℕ) → inner c → FirstReady (parts_of s) back axis c kids below)
    → (m : Measured) → measured_in axis cross v ≡ m → MeasuredBy (parts_of s) back axis cross m v kids w below inner → IsReadied (parts_of s) back axis cross v kids w below
one_ready s law back only axis cross v kids w below here all inner ready boxed e is =
    subst (λ (x : LayoutNode). IsReadied (parts_of s) back axis cross v kids x below) (sym is.0)
    (box_ready s law back only axis cross v kids below all (box_look v.look (open_by (is_open axis cross v) (measured_below v.look) boxed e tt)) is.1)
one_ready s law back only axis cross v kids w below here all inner ready (padded i) e is =
    subst (λ (x : LayoutNode). IsReadied (parts_of s) back axis cross v kids x below) (sym is.0)
    (padded_ready s law back only axis cross v kids below all i (padding_look v.look i (open_by (is_open axis cross v) (measured_below v.look) (padded i) e tt)) (ready (cross_in axis cross i) is.1))
one_ready s law back only axis cross v kids w below here all inner ready nothing e is = ready_self (parts_of s) back axis cross v kids w below here all is

first_ready : (s : Setting) → Lawful (parts_of s) → (back : Backs) → HoldsOnly (parts_of s) back → (axis : Axis) (cross : ℕ) (f g : Forest LayoutNode) → HereAll (parts_of s) f
    → FirstMeasured (parts_of s) back axis cross f g → FirstReady (parts_of s) back axis cross f g
first_ready s law back only axis cross none none all m = tt
first_ready s law back only axis cross none (tree k w below rest) all m = absurd m
first_ready s law back only axis cross (tree h v kids more) none all m = absurd m
first_ready s law back only axis cross (tree h v kids more) (tree k w below rest) all m = (
  m.0,
  one_ready s law back only axis cross v kids w below all.0 all.1 (λ c. FirstMeasured (parts_of s) back axis c kids below) (λ c. first_ready s law back only axis c kids below all.1) (measured_in axis cross v) refl m.1,
  m.2,
)

pub all_ready : (s : Setting) → Lawful (parts_of s) → (back : Backs) → HoldsOnly (parts_of s) back → (axis : Axis) (cross : ℕ) (f g : Forest LayoutNode) → HereAll (parts_of s) f
    → AreMeasured (parts_of s) back axis cross f g → AreReady (parts_of s) back axis cross f g
all_ready s law back only axis cross none none all m = tt
all_ready s law back only axis cross none (tree k w below rest) all m = absurd m
all_ready s law back only axis cross (tree h v kids more) none all m = absurd m
all_ready s law back only axis cross (tree h v kids more) (tree k w below rest) all m = (
  m.0,
  one_ready s law back only axis cross v kids w below all.0 all.1 (λ c. FirstMeasured (parts_of s) back axis c kids below) (λ c. first_ready s law back only axis c kids below all.1) (measured_in axis cross v) refl m.1,
  all_ready s law back only axis cross more rest all.2 m.2,
)

-- ---- and then laid out in their views

pub ready_same : (P : LayoutParts) (back : Backs) (axis : Axis) (cross : ℕ) (f g : Forest LayoutNode) → AreReady P back axis cross f g → SameMembers f g × HereAll P g
ready_same P back axis cross none none ready = (tt, tt)
ready_same P back axis cross none (tree k w below rest) ready = absurd ready
ready_same P back axis cross (tree h v kids more) none ready = absurd ready
ready_same P back axis cross (tree h v kids more) (tree k w below rest) ready =
    let next = ready_same P back axis cross more rest ready.2 in
    ((ready.0, ready.1.member, ready.1.same, next.0), (ready.1.here, ready.1.all, next.1))

one_viewed : (P : LayoutParts) → Lawful P → (back : Backs) (axis : Axis) (cross : ℕ) (ask : Ask) (v : LayoutNode) (kids : Forest LayoutNode) (w : LayoutNode) (below : Forest LayoutNode) (u : LayoutNode) (under : Forest LayoutNode)
    → AsksView axis cross (Some ask) → IsReadied P back axis cross v kids w below → LaysOut P back ask w below u under → IsLaid P back ask v kids u under
one_viewed P law back axis cross (AsBox b) v kids w below u under asks ready laid = absurd asks
one_viewed P law back axis cross (AsSliver b) v kids w below u under asks ready laid =
    record {
      asked = laid.asked;
      settled = laid.settled;
      quiet = laid.quiet;
      corrected = node_trans P law back (AsSliver b) v w u kids below under ready.member ready.same laid.same (ready.corrected b asks.0 asks.1) laid.corrected;
    }

pub views_laid : (P : LayoutParts) → Lawful P → (back : Backs) (axis : Axis) (cross : ℕ) (asks : List (Option Ask)) (f g k : Forest LayoutNode)
    → ViewEach axis cross asks f → AreReady P back axis cross f g → Round P back asks g k → AreLaid P back asks f k
views_laid P law back axis cross asks none none none views ready round = tt
views_laid P law back axis cross asks none none (tree j u under last) views ready round = absurd round
views_laid P law back axis cross asks none (tree k w below rest) g views ready round = absurd ready
views_laid P law back axis cross asks (tree h v kids more) none g views ready round = absurd ready
views_laid P law back axis cross asks (tree h v kids more) (tree k w below rest) none views ready round = absurd round
views_laid P law back axis cross [] (tree h v kids more) (tree k w below rest) (tree j u under last) views ready round = absurd views
views_laid P law back axis cross (None ∷ asks) (tree h v kids more) (tree k w below rest) (tree j u under last) views ready round = absurd views
views_laid P law back axis cross (Some ask ∷ asks) (tree h v kids more) (tree k w below rest) (tree j u under last) views ready round =
    (one_viewed P law back axis cross ask v kids w below u under views.0 ready.1 round.1, views_laid P law back axis cross asks more rest last views.1 ready.2 round.2)
