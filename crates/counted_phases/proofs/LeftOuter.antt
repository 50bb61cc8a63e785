-- What an outer flush leaves of the frames of nodes.
use Rattle.std.proofs.Common.{◌≡◌, ap, refl, sym, subst, ◌∙◌, inl, inr, ℕ, Bool, true, false, Option, Some, None, IsSome, option_map, List, []}
use Rattle.std.proofs.lemmas.Bool.{cases_Bool, false≢true, true≢false}
use Rattle.fx_geom.specs.declared.boxes.Bounds.{Bounds}
use Rattle.fx_geom.specs.declared.shapes.Offset.{Offset}
use Rattle.node_tree.specs.Forest.{Forest}
use Rattle.node_tree.specs.Forest.Forest.{none, tree}
use Rattle.node_tree.proofs.ForestLemmas.{same_Some}
use Rattle.widget_model.specs.Look.{Look, sliver_lazy}
use Rattle.plain_tree.specs.declared.render.ParentData.{ParentData}
use Rattle.plain_tree.specs.declared.laid.Frame.{Frame}
use Rattle.layout_form.specs.declared.asks.Ask.{Ask}
use Rattle.layout_form.specs.declared.asks.Ask.TheVariants.{AsBox, AsSliver}
use Rattle.layout_form.specs.Object.{Setting}
use Rattle.layout_walk.specs.Node.{LayoutNode, NodeMember, member, members, tellings, ask_in}
use Rattle.layout_walk.specs.Rule.{LayoutParts, Lawful, asks_by, ask_of, later}
use Rattle.layout_walk.specs.Rules.{parts_of, is_list, holds_in}
use Rattle.layout_walk.specs.Full.{asks_at, made_at, objects, place_of, past}
use Rattle.layout_walk.specs.Here.{ShownAs, StandAs, IsGiven, HereAll, AreFresh, IsQuiet, AreQuiet, Backs, outer_back}
use Rattle.layout_walk.specs.Walk.{HeldOr, IsLeft, CorrectedAs, AreCorrected, IsCorrected}
use Rattle.layout_walk.proofs.Correcting.{corrected_same, corrected_asks}
use Rattle.counted_phases.proofs.OuterShown.{clear_by}

-- each node has the frame that it had
abbrev pub StayFramed : Forest LayoutNode → Forest LayoutNode → Type 0
StayFramed none none = Unit {0}
StayFramed none (tree k w below rest) = ⊥
StayFramed (tree h v kids more) none = ⊥
StayFramed (tree h v kids more) (tree k w below rest) = (h ≡ k) × (w.number ≡ v.number) × (w.frame ≡ v.frame) × StayFramed kids below × StayFramed more rest

stay_self : (f : Forest LayoutNode) → StayFramed f f
stay_self none = tt
stay_self (tree h v kids rest) = (refl, refl, refl, stay_self kids, stay_self rest)

stay_same : (f g : Forest LayoutNode) → g ≡ f → StayFramed f g
stay_same f g e = subst (StayFramed f) (sym e) (stay_self f)

-- where nobody is asked nothing changes
unasked_stay : (P : LayoutParts) (back : Backs) (f g : Forest LayoutNode) → AreCorrected P back [] f g → StayFramed f g
unasked_stay P back none none corrected = tt
unasked_stay P back none (tree k w below rest) corrected = absurd corrected
unasked_stay P back (tree h v kids more) none corrected = absurd corrected
unasked_stay P back (tree h v kids more) (tree k w below rest) corrected = (
  corrected.0,
  ap (λ (m : NodeMember). m.number) (sym corrected.1),
  ap (λ (x : LayoutNode). x.frame) corrected.2.value,
  stay_same kids below corrected.2.inside,
  unasked_stay P back more rest corrected.3,
)

-- an outer node in the window has a frame; each other node has the one that it had, also below a list
abbrev pub LeftOuter : Bool → Bool → LayoutNode → Forest LayoutNode → LayoutNode → Forest LayoutNode → Type 0 → Type 0
LeftOuter false list v kids w below further = (w.frame ≡ v.frame) × StayFramed kids below
LeftOuter true true v kids w below further = IsSome w.frame × StayFramed kids below
LeftOuter true false v kids w below further = IsSome w.frame × further

abbrev pub AreLeftOuter : Forest LayoutNode → Forest LayoutNode → Type 0
AreLeftOuter none none = Unit {0}
AreLeftOuter none (tree k w below rest) = ⊥
AreLeftOuter (tree h v kids more) none = ⊥
AreLeftOuter (tree h v kids more) (tree k w below rest) =
    (h ≡ k) × (w.number ≡ v.number) × LeftOuter w.shown (is_list w.look) v kids w below (AreLeftOuter kids below) × AreLeftOuter more rest

some_mapped : {A B : Type 0} (g : A → B) (o : Option A) (b : B) → option_map g o ≡ Some b → IsSome o
some_mapped g None b e = absurd (cc)
some_mapped g (Some a) b e = refl

held_false : (A : Type 0) {B : Type 0} (b : Bool) → b ≡ false → HeldOr b A B → B
held_false A true e is = absurd (true≢false e)
held_false A false e is = is

module _ (s : Setting) (law : Lawful (parts_of s)) where
  abbrev P : LayoutParts
  P = parts_of s

  abbrev back : Backs
  back = outer_back P

  -- a list that is laid out as a box asks nobody
  box_list_asks : (m : NodeMember) (extent scroll liked : ℕ) (b : Bounds) (ds : List ParentData) (gs : List (Ask → Frame)) → asks_by P (record m { look = sliver_lazy extent }) scroll (AsBox b) liked ds gs ≡ []
  unfolding asks_by
  box_list_asks m extent scroll liked b ds gs = refl

  -- the items of a list that is asked, below which this is done
  list_stays : (look : Look) (m : NodeMember) (ask : Ask) (scroll liked : ℕ) (ds : List ParentData) (gs : List (Ask → Frame)) (kids below : Forest LayoutNode) → is_list look ≡ true
      → HeldOr (holds_in look ask) (below ≡ kids) (AreCorrected P back (asks_by P (record m { look = look }) scroll ask liked ds gs) kids below) → StayFramed kids below
  list_stays (sliver_lazy extent) m (AsSliver b) scroll liked ds gs kids below list is = stay_same kids below is
  list_stays (sliver_lazy extent) m (AsBox b) scroll liked ds gs kids below list is =
      unasked_stay P back kids below (subst (λ (xs : List (Option Ask)). AreCorrected P back xs kids below) (box_list_asks m extent scroll liked b ds gs) is)
  list_stays look m ask scroll liked ds gs kids below list is = absurd (false≢true list)

  not_held : (look : Look) (ask : Ask) → is_list look ≡ false → holds_in look ask ≡ false
  not_held look ask other = elim (cases_Bool (holds_in look ask)) [
    | inl held ↦ absurd (false≢true (sym other ∙ law.holds_lists look ask held))
    | inr free ↦ free
  ]

  placed_full : (w : LayoutNode) (below : Forest LayoutNode) (ask : Ask) → (given : IsGiven P w below (objects P below)) → given.ask ≡ ask
      → StandAs (asks_at P w ask below (objects P below)) (made_at P w ask below (objects P below)).places below
  placed_full w below ask given one = subst (λ (a : Ask). StandAs (asks_at P w a below (objects P below)) (made_at P w a below (objects P below)).places below) one given.gives.placed

  abbrev Further : Forest LayoutNode → Forest LayoutNode → Type 0
  Further kids below = (asks : List (Option Ask)) (places : List Offset) → AreQuiet P back below → StandAs asks places below → AreCorrected P back asks kids below → AreLeftOuter kids below

  asked_left : (ask : Ask) (at : Offset) (v : LayoutNode) (kids : Forest LayoutNode) (w : LayoutNode) (below : Forest LayoutNode)
      → member v ≡ member w → (w.needs_layout ≡ false → IsGiven P w below (objects P below)) → IsQuiet P back w (AreQuiet P back below) → ShownAs (Some ask) at w
      → IsCorrected P back ask v kids w below → Further kids below → (list : Bool) → is_list w.look ≡ list → LeftOuter true list v kids w below (AreLeftOuter kids below)
  asked_left ask at v kids w below is given quiet stands corrected further true list = (
    some_mapped ask_in w.frame ask stands.asked,
    list_stays v.look (member v) ask v.scroll (P.liked v.look ask (members kids)) (tellings kids) (objects P kids) kids below (ap (λ (m : NodeMember). is_list m.look) is ∙ list) corrected.1,
  )
  asked_left ask at v kids w below is given quiet stands corrected further false other =
      let clear = clear_by s law w (AreQuiet P back below) ask stands.asked other quiet in
      let full = given clear.0 in
      let inner : AreCorrected P back (asks_at P v ask kids (objects P kids)) kids below =
      held_false (below ≡ kids) (holds_in v.look ask) (not_held v.look ask (ap (λ (m : NodeMember). is_list m.look) is ∙ other)) corrected.1 in
      let same = corrected_same P back (asks_at P v ask kids (objects P kids)) kids below inner in
      let asks = corrected_asks P law back v w ask kids below is same corrected.0 in
      let places = (made_at P w ask below (objects P below)).places in
      let placed : StandAs (asks_at P v ask kids (objects P kids)) places below =
      subst (λ (xs : List (Option Ask)). StandAs xs places below) (sym asks) (placed_full w below ask full (same_Some (sym full.asked ∙ stands.asked))) in
      (some_mapped ask_in w.frame ask stands.asked, further (asks_at P v ask kids (objects P kids)) places clear.1 placed inner)

  one_left : (o : Option Ask) (at : Offset) (v : LayoutNode) (kids : Forest LayoutNode) (w : LayoutNode) (below : Forest LayoutNode)
      → member v ≡ member w → (w.needs_layout ≡ false → IsGiven P w below (objects P below)) → (w.shown ≡ true → IsQuiet P back w (AreQuiet P back below)) → ShownAs o at w
      → CorrectedAs o (λ ask. IsCorrected P back ask v kids w below) (IsLeft v kids w below) → Further kids below
      → LeftOuter w.shown (is_list w.look) v kids w below (AreLeftOuter kids below)
  one_left None at v kids w below is given quiet stands corrected further =
      subst (λ (b : Bool). LeftOuter b (is_list w.look) v kids w below (AreLeftOuter kids below)) (sym stands) (ap (λ (x : LayoutNode). x.frame) corrected.value, stay_same kids below corrected.inside)
  one_left (Some ask) at v kids w below is given quiet stands corrected further =
      subst (λ (b : Bool). LeftOuter b (is_list w.look) v kids w below (AreLeftOuter kids below)) (sym stands.shown)
      (asked_left ask at v kids w below is given (quiet stands.shown) stands corrected further (is_list w.look) refl)

  pub left_outer : (asks : List (Option Ask)) (places : List Offset) (f g : Forest LayoutNode) → HereAll P g → AreFresh P g → AreQuiet P back g → StandAs asks places g
      → AreCorrected P back asks f g → AreLeftOuter f g
  left_outer asks places none none all full quiet stands corrected = tt
  left_outer asks places none (tree k w below rest) all full quiet stands corrected = absurd corrected
  left_outer asks places (tree h v kids more) none all full quiet stands corrected = absurd corrected
  left_outer asks places (tree h v kids more) (tree k w below rest) all full quiet stands corrected = (
    corrected.0,
    ap (λ (m : NodeMember). m.number) (sym corrected.1),
    one_left (ask_of asks) (place_of places) v kids w below corrected.1 full.0 quiet.0 stands.0 corrected.2
        (λ xs ps calm stood right. left_outer xs ps kids below all.1 full.1 calm stood right),
    left_outer (later asks) (past (ask_of asks) places) more rest all.2 full.2 quiet.1 stands.1 corrected.3,
  )
