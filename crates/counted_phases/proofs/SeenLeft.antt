-- What an outer flush leaves of nodes: those in the window, and those that it doesn't reach.
use Rattle.std.proofs.Common.{◌≡◌, ap, refl, sym, subst, ◌∙◌, inl, inr, ◌⊎◌, ℕ, Bool, true, false, Option, Some, None, IsSome, option_map, List, []}
use Rattle.std.proofs.lemmas.Bool.{cases_Bool, false≢true, true≢false}
use Rattle.fx_geom.specs.declared.boxes.Bounds.{Bounds}
use Rattle.fx_geom.specs.declared.shapes.Offset.{Offset}
use Rattle.fx_handles.specs.ArenaLaws.{same_Some}
use Rattle.node_tree.specs.Forest.{Forest}
use Rattle.node_tree.specs.Forest.Forest.{none, tree}
use Rattle.widget_model.specs.Look.{Look, sliver_lazy}
use Rattle.plain_tree.specs.declared.render.ParentData.{ParentData}
use Rattle.plain_tree.specs.declared.laid.Frame.{Frame}
use Rattle.layout_form.specs.declared.asks.Ask.{Ask}
use Rattle.layout_form.specs.declared.asks.Ask.TheVariants.{AsBox, AsSliver}
use Rattle.layout_form.specs.Object.{Setting}
use Rattle.layout_walk.specs.Node.{LayoutNode, NodeMember, member, members, tellings, ask_in, asked}
use Rattle.layout_walk.specs.Rule.{LayoutParts, Lawful, asks_by, ask_of, later}
use Rattle.layout_walk.specs.Rules.{parts_of, is_list, holds_in}
use Rattle.layout_walk.specs.Full.{asks_at, made_at, objects, place_of, past}
use Rattle.layout_walk.specs.Here.{ShownAs, StandAs, IsGiven, HereAll, AreFresh, IsQuiet, AreQuiet, Backs, outer_back}
use Rattle.layout_walk.specs.Walk.{HeldOr, IsLeft, CorrectedAs, AreCorrected, IsCorrected}
use Rattle.layout_walk.proofs.Correcting.{corrected_same, corrected_asks}

-- nodes that nobody asks: nothing of them changes but that they are out of the window, and nothing below them
abbrev pub AllLeft : Forest LayoutNode → Forest LayoutNode → Type 0
AllLeft none none = Unit {0}
AllLeft none (tree k w below rest) = ⊥
AllLeft (tree h v kids more) none = ⊥
AllLeft (tree h v kids more) (tree k w below rest) = (h ≡ k) × IsLeft v kids w below × (w.shown ≡ false) × AllLeft more rest

-- the items of a list that is laid out stay as they are, or it is laid out as a box, and nobody asks them
pub record IsBoxLeft (w : LayoutNode) (kids below : Forest LayoutNode) : Type 0 where
  pub bounds : Bounds
  pub asked : asked w ≡ Some (AsBox bounds)
  pub left : AllLeft kids below

abbrev pub ListLeft : LayoutNode → Forest LayoutNode → Forest LayoutNode → Type 0
ListLeft w kids below = (below ≡ kids) ⊎ IsBoxLeft w kids below

-- a node in the window has a frame and a place; of any other nothing changes
abbrev pub SeenLeft : Bool → Bool → LayoutNode → Forest LayoutNode → LayoutNode → Forest LayoutNode → Type 0 → Type 0
SeenLeft false list v kids w below further = IsLeft v kids w below
SeenLeft true true v kids w below further = IsSome w.frame × IsSome w.offset × ListLeft w kids below
SeenLeft true false v kids w below further = IsSome w.frame × IsSome w.offset × further

abbrev pub AreSeenLeft : Forest LayoutNode → Forest LayoutNode → Type 0
AreSeenLeft none none = Unit {0}
AreSeenLeft none (tree k w below rest) = ⊥
AreSeenLeft (tree h v kids more) none = ⊥
AreSeenLeft (tree h v kids more) (tree k w below rest) = (h ≡ k) × SeenLeft w.shown (is_list w.look) v kids w below (AreSeenLeft kids below) × AreSeenLeft more rest

some_mapped : {A B : Type 0} (g : A → B) (o : Option A) (b : B) → option_map g o ≡ Some b → IsSome o
some_mapped g None b e = absurd (cc)
some_mapped g (Some a) b e = refl

some_is : {A : Type 0} (o : Option A) (a : A) → o ≡ Some a → IsSome o
some_is None a e = absurd (cc)
some_is (Some b) a e = refl

held_false : (A : Type 0) {B : Type 0} (b : Bool) → b ≡ false → HeldOr b A B → B
held_false A true e is = absurd (true≢false e)
held_false A false e is = is

module _ (s : Setting) (law : Lawful (parts_of s)) where
  abbrev P : LayoutParts
  P = parts_of s

  abbrev back : Backs
  back = outer_back P

  -- a node that isn't held back needn't be laid out
  clear_by : (w : LayoutNode) (T : Type 0) (ask : Ask) → asked w ≡ Some ask → holds_in w.look ask ≡ false → IsQuiet P back w T → (w.needs_layout ≡ false) × T
  clear_by w T ask is free (inl held) = absurd (false≢true (sym free ∙ (sym (ap (back w.look) is) ∙ held.holds)))
  clear_by w T ask is free (inr clear) = clear

  -- a list that is laid out as a box asks nobody
  pub box_list_asks : (m : NodeMember) (extent scroll liked : ℕ) (b : Bounds) (ds : List ParentData) (gs : List (Ask → Frame)) → asks_by P (record m { look = sliver_lazy extent }) scroll (AsBox b) liked ds gs ≡ []
  unfolding asks_by
  box_list_asks m extent scroll liked b ds gs = refl

  -- where nobody is asked nothing changes
  nobody_asked : (places : List Offset) (f g : Forest LayoutNode) → AreCorrected P back [] f g → StandAs [] places g → AllLeft f g
  nobody_asked places none none corrected stands = tt
  nobody_asked places none (tree k w below rest) corrected stands = absurd corrected
  nobody_asked places (tree h v kids more) none corrected stands = absurd corrected
  nobody_asked places (tree h v kids more) (tree k w below rest) corrected stands = (corrected.0, corrected.2, stands.0, nobody_asked (past None places) more rest corrected.3 stands.1)

  placed_full : (w : LayoutNode) (below : Forest LayoutNode) (ask : Ask) → (given : IsGiven P w below (objects P below)) → given.ask ≡ ask
      → StandAs (asks_at P w ask below (objects P below)) (made_at P w ask below (objects P below)).places below
  placed_full w below ask given one = subst (λ (a : Ask). StandAs (asks_at P w a below (objects P below)) (made_at P w a below (objects P below)).places below) one given.gives.placed

  -- the items of a list
  list_left : (w : LayoutNode) (look : Look) (m : NodeMember) (ask : Ask) (scroll liked scroll2 liked2 : ℕ) (ds ds2 : List ParentData) (gs gs2 : List (Ask → Frame)) (places : List Offset) (kids below : Forest LayoutNode) → asked w ≡ Some ask → is_list look ≡ true
      → HeldOr (holds_in look ask) (below ≡ kids) (AreCorrected P back (asks_by P (record m { look = look }) scroll ask liked ds gs) kids below)
      → (holds_in look ask ≡ false → StandAs (asks_by P (record m { look = look }) scroll2 ask liked2 ds2 gs2) places below) → ListLeft w kids below
  list_left w (sliver_lazy extent) m (AsSliver b) scroll liked scroll2 liked2 ds ds2 gs gs2 places kids below ask list is stands = inl is
  list_left w (sliver_lazy extent) m (AsBox b) scroll liked scroll2 liked2 ds ds2 gs gs2 places kids below ask list is stands =
      inr (record {
        bounds = b;
        asked = ask;
        left = nobody_asked places kids below (subst (λ (xs : List (Option Ask)). AreCorrected P back xs kids below) (box_list_asks m extent scroll liked b ds gs) is)
            (subst (λ (xs : List (Option Ask)). StandAs xs places below) (box_list_asks m extent scroll2 liked2 b ds2 gs2) (stands refl));
      })
  list_left w look m ask scroll liked scroll2 liked2 ds ds2 gs gs2 places kids below asks list is stands = absurd (false≢true list)

  not_held : (look : Look) (ask : Ask) → is_list look ≡ false → holds_in look ask ≡ false
  not_held look ask other = elim (cases_Bool (holds_in look ask)) [
    | inl held ↦ absurd (false≢true (sym other ∙ law.holds_lists look ask held))
    | inr free ↦ free
  ]

  abbrev Further : Forest LayoutNode → Forest LayoutNode → Type 0
  Further kids below = (asks : List (Option Ask)) (places : List Offset) → AreQuiet P back below → StandAs asks places below → AreCorrected P back asks kids below → AreSeenLeft kids below

  asked_left : (ask : Ask) (at : Offset) (v : LayoutNode) (kids : Forest LayoutNode) (w : LayoutNode) (below : Forest LayoutNode)
      → member v ≡ member w → (w.needs_layout ≡ false → IsGiven P w below (objects P below)) → IsQuiet P back w (AreQuiet P back below) → ShownAs (Some ask) at w
      → IsCorrected P back ask v kids w below → Further kids below → (list : Bool) → is_list w.look ≡ list → SeenLeft true list v kids w below (AreSeenLeft kids below)
  asked_left ask at v kids w below is given quiet stands corrected further true list = (
    some_mapped ask_in w.frame ask stands.asked,
    some_is w.offset at stands.offset,
    list_left w v.look (member v) ask v.scroll (P.liked v.look ask (members kids)) w.scroll (P.liked w.look ask (members below)) (tellings kids) (tellings below) (objects P kids) (objects P below)
        (made_at P w ask below (objects P below)).places kids below stands.asked (ap is_list look ∙ list) corrected.1
        (λ free.
        let clear = clear_by w (AreQuiet P back below) ask stands.asked (ap (λ (l : Look). holds_in l ask) (sym look) ∙ free) quiet in
        let full = given clear.0 in
        subst (λ (m : NodeMember). StandAs (asks_by P m w.scroll ask (P.liked w.look ask (members below)) (tellings below) (objects P below)) (made_at P w ask below (objects P below)).places below) (sym is)
        (placed_full w below ask full (same_Some (sym full.asked ∙ stands.asked)))),
  )
    where
      look : v.look ≡ w.look
      look = ap (λ (m : NodeMember). m.look) is
  asked_left ask at v kids w below is given quiet stands corrected further false other =
      let clear = clear_by w (AreQuiet P back below) ask stands.asked (not_held w.look ask other) quiet in
      let full = given clear.0 in
      let inner : AreCorrected P back (asks_at P v ask kids (objects P kids)) kids below =
      held_false (below ≡ kids) (holds_in v.look ask) (not_held v.look ask (ap (λ (m : NodeMember). is_list m.look) is ∙ other)) corrected.1 in
      let same = corrected_same P back (asks_at P v ask kids (objects P kids)) kids below inner in
      let asks = corrected_asks P law back v w ask kids below is same corrected.0 in
      let places = (made_at P w ask below (objects P below)).places in
      let placed : StandAs (asks_at P v ask kids (objects P kids)) places below =
      subst (λ (xs : List (Option Ask)). StandAs xs places below) (sym asks) (placed_full w below ask full (same_Some (sym full.asked ∙ stands.asked))) in
      (some_mapped ask_in w.frame ask stands.asked, some_is w.offset at stands.offset, further (asks_at P v ask kids (objects P kids)) places clear.1 placed inner)

  one_left : (o : Option Ask) (at : Offset) (v : LayoutNode) (kids : Forest LayoutNode) (w : LayoutNode) (below : Forest LayoutNode)
      → member v ≡ member w → (w.needs_layout ≡ false → IsGiven P w below (objects P below)) → (w.shown ≡ true → IsQuiet P back w (AreQuiet P back below)) → ShownAs o at w
      → CorrectedAs o (λ ask. IsCorrected P back ask v kids w below) (IsLeft v kids w below) → Further kids below
      → SeenLeft w.shown (is_list w.look) v kids w below (AreSeenLeft kids below)
  one_left None at v kids w below is given quiet stands corrected further =
      subst (λ (b : Bool). SeenLeft b (is_list w.look) v kids w below (AreSeenLeft kids below)) (sym stands) corrected
  one_left (Some ask) at v kids w below is given quiet stands corrected further =
      subst (λ (b : Bool). SeenLeft b (is_list w.look) v kids w below (AreSeenLeft kids below)) (sym stands.shown)
      (asked_left ask at v kids w below is given (quiet stands.shown) stands corrected further (is_list w.look) refl)

  pub seen_left : (asks : List (Option Ask)) (places : List Offset) (f g : Forest LayoutNode) → HereAll P g → AreFresh P g → AreQuiet P back g → StandAs asks places g
      → AreCorrected P back asks f g → AreSeenLeft f g
  seen_left asks places none none all full quiet stands corrected = tt
  seen_left asks places none (tree k w below rest) all full quiet stands corrected = absurd corrected
  seen_left asks places (tree h v kids more) none all full quiet stands corrected = absurd corrected
  seen_left asks places (tree h v kids more) (tree k w below rest) all full quiet stands corrected = (
    corrected.0,
    one_left (ask_of asks) (place_of places) v kids w below corrected.1 full.0 quiet.0 stands.0 corrected.2
        (λ xs ps calm stood right. seen_left xs ps kids below all.1 full.1 calm stood right),
    seen_left (later asks) (past (ask_of asks) places) more rest all.2 full.2 quiet.1 stands.1 corrected.3,
  )
