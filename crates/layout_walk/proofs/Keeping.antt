-- A node whose rule isn't run, with what is laid out below it; and a node that an outer flush holds back.
use Rattle.std.proofs.Common.{◌≡◌, ap, refl, sym, subst, ◌∙◌, ◌⊎◌, inl, inr, suc, Bool, true, false, ◌||◌, ◌&&◌, length, Option, Some, None, List, ◌∷◌, cond}
use Rattle.layout_walk.proofs.Correcting.{either_way, not_held, corrected_self}
use Rattle.fx_geom.specs.declared.shapes.Offset.{Offset}
use Rattle.node_tree.specs.Forest.{Forest}
use Rattle.node_tree.specs.Forest.Forest.{none, tree}
use Rattle.node_tree.proofs.ForestLemmas.{same_Some}
use Rattle.plain_tree.specs.declared.laid.Frame.{Frame}
use Rattle.layout_form.specs.declared.asks.Ask.{Ask}
use Rattle.layout_walk.specs.Node.{LayoutNode, member, members, tellings, stored, frame_or, ask_in, asked}
use Rattle.layout_walk.specs.Rule.{LayoutParts, RuleGift, ask_of, later, scroll_after, Lawful}
use Rattle.layout_walk.specs.Full.{asks_at, made_at, objects, place_of, past}
use Rattle.layout_walk.specs.Here.{ShownAs, StandAs, RuleHolds, IsFirm, AreFirm, Here, HereAll, Unmarked, Backs, IsQuiet, AreQuiet}
use Rattle.layout_walk.specs.Walk.{AreAskedAlike, SameMembers, IsLeft, LaysOut, LaidAs, Round, any_mark, kept_ask, kept_asks, marked_below, held_back, CorrectedAs, AreCorrected, IsCorrected}
use Rattle.layout_walk.proofs.Fresh.{none_some, stored_frame, answers_full, made_full, asks_full, frame_full}
use Rattle.layout_walk.proofs.Same.{same_self, same_made, same_asks, same_frame, same_objects}
use Rattle.layout_walk.proofs.Standing.{false_true}
use Rattle.layout_walk.proofs.Rounds.{round_same, round_here}
use Rattle.layout_walk.proofs.Running.{or_false, unmarked_of}

-- ---- nothing to do

-- without marks nothing in the window has to be laid out
pub still_quiet : (P : LayoutParts) (back : Backs) (f : Forest LayoutNode) → HereAll P f → Unmarked f → AreQuiet P back f
still_quiet P back none all clear = tt
still_quiet P back (tree h v kids rest) all clear =
    ((λ shown. inr (clear.0, still_quiet P back kids all.1 (all.0.marked clear.1))), still_quiet P back rest all.2 clear.2)

pub still : (P : LayoutParts) (back : Backs) (v : LayoutNode) (ask : Ask) (kids : Forest LayoutNode)
    → Here P v kids → HereAll P kids → asked v ≡ Some ask → v.needs_layout ≡ false → v.layout_below ≡ false → LaysOut P back ask v kids v kids
still P back v ask kids here all is clear below = record {
  member = refl;
  same = same_self kids;
  shown = refl;
  offset = refl;
  here = here;
  all = all;
  asked = is;
  settled = λ flag. absurd (false_true (sym clear ∙ flag));
  quiet = inr (clear, still_quiet P back kids all (here.marked below));
  corrected = (inl refl, either_way (back v.look (Some ask)) refl (corrected_self P back (asks_at P v ask kids (objects P kids)) kids));
}

-- ---- a node that is held back

-- one that has the frame which its bounds alone give may be left as it is
pub left : (P : LayoutParts) (back : Backs) (v : LayoutNode) (ask : Ask) (kids : Forest LayoutNode)
    → Here P v kids → HereAll P kids → asked v ≡ Some ask → IsFirm P v → back v.look (Some ask) ≡ true → LaysOut P back ask v kids v kids
left P back v ask kids here all is firm backs = record {
  member = refl;
  same = same_self kids;
  shown = refl;
  offset = refl;
  here = here;
  all = all;
  asked = is;
  settled = λ flag. firm;
  quiet = inl (record { holds = ap (λ (o : Option Ask). back v.look o) is ∙ backs; firm = firm });
  corrected = (inl refl, either_way (back v.look (Some ask)) refl (corrected_self P back (asks_at P v ask kids (objects P kids)) kids));
}

-- as has one that needn't be laid out
pub clear_firm : (P : LayoutParts) → Lawful P → (v : LayoutNode) (ask : Ask) (kids : Forest LayoutNode) → Here P v kids → asked v ≡ Some ask → v.needs_layout ≡ false → P.holds v.look ask ≡ true
    → IsFirm P v
clear_firm P law v ask kids here is clear holds =
    let given = here.consistent clear in
    let one : given.ask ≡ ask = same_Some (sym given.asked ∙ is) in
    let made = made_at P v given.ask kids (stored kids) in
    let says : ask_in made.facts.frame ≡ given.ask = law.asked (member v) v.scroll given.ask (P.liked v.look given.ask (members kids)) (tellings kids) (stored kids) in
    record {
      frame = made.facts.frame;
      stored = stored_frame v v.frame made.facts given.gives.facts;
      fixed = ap (λ (a : Ask). P.fixed (member v) a) says
          ∙ law.held (member v) v.scroll given.ask (P.liked v.look given.ask (members kids)) (tellings kids) (stored kids) (ap (λ (a : Ask). P.holds v.look a) one ∙ holds);
    }

pub held : (P : LayoutParts) → Lawful P → (back : Backs) (v : LayoutNode) (ask : Ask) (kids : Forest LayoutNode)
    → Here P v kids → HereAll P kids → P.holds v.look ask ≡ true → back v.look (Some ask) ≡ true
    → LaysOut P back ask v kids (held_back v (made_at P v ask kids (stored kids))) kids
held P law back v ask kids here all holds backs =
    let made = made_at P v ask kids (stored kids) in
    let says : ask_in made.facts.frame ≡ ask = law.asked (member v) v.scroll ask (P.liked v.look ask (members kids)) (tellings kids) (stored kids) in
    let firm : IsFirm P (held_back v made) = record {
      frame = made.facts.frame;
      stored = refl;
      fixed = ap (λ (a : Ask). P.fixed (member v) a) says ∙ law.held (member v) v.scroll ask (P.liked v.look ask (members kids)) (tellings kids) (stored kids) holds;
    } in
    record {
      member = refl;
      same = same_self kids;
      shown = refl;
      offset = refl;
      here = record { consistent = λ clear. absurd (false_true (sym clear)); closed = λ clear. absurd (false_true (sym clear)); marked = here.marked };
      all = all;
      asked = ap (λ (a : Ask). Some a) says;
      settled = λ flag. firm;
      quiet = inl (record { holds = ap (λ (a : Ask). back v.look (Some a)) says ∙ backs; firm = firm });
      corrected = (inl refl, either_way (back v.look (Some ask)) refl (corrected_self P back (asks_at P v ask kids (objects P kids)) kids));
    }

-- ---- a node that stays as it is, above what is laid out as it stands

-- a tree that is visited is in the window, and asked as it stands
abbrev pub IsVisited : LayoutNode → Ask → Type 0
IsVisited v ask = (v.shown ≡ true) × (asked v ≡ Some ask)

visit_by : (shown mark : Bool) (o : Option Ask) (ask : Ask) → (cond {A = Option Ask} (shown && mark) o None) ≡ Some ask → (shown ≡ true) × (o ≡ Some ask)
visit_by true true o ask e = (refl, e)
visit_by true false o ask e = absurd (none_some ask e)
visit_by false mark o ask e = absurd (none_some ask e)

pub visited : (v : LayoutNode) (ask : Ask) → kept_ask v ≡ Some ask → IsVisited v ask
visited v ask e = visit_by v.shown (v.needs_layout || v.layout_below) (asked v) ask e

pass_by : (shown mark : Bool) (o : Option Ask) (ask : Ask) → (cond {A = Option Ask} (shown && mark) o None) ≡ None → shown ≡ true → o ≡ Some ask → mark ≡ false
pass_by true true o ask e is asks = absurd (none_some ask (sym e ∙ asks))
pass_by true false o ask e is asks = refl
pass_by false mark o ask e is asks = absurd (false_true is)

-- one that isn't visited, though it is in the window, has no mark
passed : (v : LayoutNode) (ask : Ask) → kept_ask v ≡ None → v.shown ≡ true → asked v ≡ Some ask → (v.needs_layout ≡ false) × (v.layout_below ≡ false)
passed v ask e is asks = or_false v.needs_layout v.layout_below (pass_by v.shown (v.needs_layout || v.layout_below) (asked v) ask e is asks)

module _ (P : LayoutParts) (law : Lawful P) (back : Backs) where
  -- ---- the trees that are laid out, one by one

  -- a tree is visited, or as before
  data Visit (v : LayoutNode) (kids : Forest LayoutNode) (w : LayoutNode) (below : Forest LayoutNode) : Type 0 where
    as_before : kept_ask v ≡ None → v ≡ w → kids ≡ below → Visit v kids w below
    laid_out : (ask : Ask) → IsVisited v ask → LaysOut P back ask v kids w below → Visit v kids w below

  visit_of : (v : LayoutNode) (kids : Forest LayoutNode) (w : LayoutNode) (below : Forest LayoutNode) (o : Option Ask)
      → kept_ask v ≡ o → LaidAs P back o v kids w below → Visit v kids w below
  visit_of v kids w below None e laid = as_before e laid.0 laid.1
  visit_of v kids w below (Some ask) e laid = laid_out ask (visited v ask e) laid

  -- ---- they stand as before

  one_stands : (v : LayoutNode) (kids : Forest LayoutNode) (w : LayoutNode) (below : Forest LayoutNode) (o : Option Ask) (at : Offset)
      → ShownAs o at v → Visit v kids w below → ShownAs o at w
  one_stands v kids w below o at stands (as_before e same alike) = subst (λ (x : LayoutNode). ShownAs o at x) same stands
  one_stands v kids w below None at stands (laid_out ask is lays) = lays.shown ∙ stands
  one_stands v kids w below (Some b) at stands (laid_out ask is lays) = record {
    shown = lays.shown ∙ stands.shown;
    asked = lays.asked ∙ sym is.1 ∙ stands.asked;
    offset = lays.offset ∙ stands.offset;
  }

  kept_stands : (asks : List (Option Ask)) (places : List Offset) (f g : Forest LayoutNode) → StandAs asks places f → Round P back (kept_asks f) f g → StandAs asks places g
  kept_stands asks places none none stand round = tt
  kept_stands asks places none (tree k w below rest) stand round = absurd round
  kept_stands asks places (tree h v kids more) none stand round = absurd round
  kept_stands asks places (tree h v kids more) (tree k w below rest) stand round = (
    one_stands v kids w below (ask_of asks) (place_of places) stand.0 (visit_of v kids w below (kept_ask v) refl round.1),
    kept_stands (later asks) (past (ask_of asks) places) more rest stand.1 round.2,
  )

  -- ---- they are firm where they have to be laid out

  one_firm : (v : LayoutNode) (kids : Forest LayoutNode) (w : LayoutNode) (below : Forest LayoutNode)
      → (v.shown ≡ true → v.needs_layout ≡ true → IsFirm P v) → Visit v kids w below → w.shown ≡ true → w.needs_layout ≡ true → IsFirm P w
  one_firm v kids w below firm (as_before e same alike) = subst (λ (x : LayoutNode). x.shown ≡ true → x.needs_layout ≡ true → IsFirm P x) same firm
  one_firm v kids w below firm (laid_out ask is lays) = λ shown flag. lays.settled flag

  kept_firm : (f g : Forest LayoutNode) → AreFirm P f → Round P back (kept_asks f) f g → AreFirm P g
  kept_firm none none firm round = tt
  kept_firm none (tree k w below rest) firm round = absurd round
  kept_firm (tree h v kids more) none firm round = absurd round
  kept_firm (tree h v kids more) (tree k w below rest) firm round =
      (one_firm v kids w below firm.0 (visit_of v kids w below (kept_ask v) refl round.1), kept_firm more rest firm.1 round.2)

  -- ---- their frames are as before

  one_frame : (v : LayoutNode) (kids : Forest LayoutNode) (w : LayoutNode) (below : Forest LayoutNode)
      → Here P v kids → HereAll P kids → (v.shown ≡ true → v.needs_layout ≡ true → IsFirm P v) → Visit v kids w below → v.frame ≡ w.frame
  one_frame v kids w below here all firm (as_before e same alike) = ap (λ (x : LayoutNode). x.frame) same
  one_frame v kids w below here all firm (laid_out ask is lays) =
      frame_full P law v kids ask here (answers_full P law kids all) is.1 (firm is.0)
      ∙ ap (λ (x : Frame). Some x) (same_frame P law v w ask kids below (objects P kids) (objects P below) lays.member lays.same (same_objects P law kids below lays.same))
      ∙ sym (frame_full P law w below ask lays.here (answers_full P law below lays.all) lays.asked lays.settled)

  kept_stored : (f g : Forest LayoutNode) → HereAll P f → AreFirm P f → Round P back (kept_asks f) f g → stored f ≡ stored g
  kept_stored none none all firm round = refl
  kept_stored none (tree k w below rest) all firm round = absurd round
  kept_stored (tree h v kids more) none all firm round = absurd round
  kept_stored (tree h v kids more) (tree k w below rest) all firm round =
      ap (λ (o : Option Frame). (λ (ask : Ask). frame_or o) ∷ stored more) (one_frame v kids w below all.0 all.1 firm.0 (visit_of v kids w below (kept_ask v) refl round.1))
      ∙ ap (λ (gs : List (Ask → Frame)). (λ (ask : Ask). frame_or w.frame) ∷ gs) (kept_stored more rest all.2 firm.1 round.2)

  kept_count : (asks : List (Option Ask)) (f g : Forest LayoutNode) → Round P back asks f g → length (stored f) ≡ length (stored g)
  kept_count asks none none round = refl
  kept_count asks none (tree k w below rest) round = absurd round
  kept_count asks (tree h v kids more) none round = absurd round
  kept_count asks (tree h v kids more) (tree k w below rest) round = ap suc (kept_count (later asks) more rest round.2)

  -- ---- they are asked as before

  one_asked : (v : LayoutNode) (kids : Forest LayoutNode) (w : LayoutNode) (below : Forest LayoutNode) → Visit v kids w below → asked w ≡ asked v
  one_asked v kids w below (as_before e same alike) = ap asked (sym same)
  one_asked v kids w below (laid_out ask is lays) = lays.asked ∙ sym is.1

  pub kept_bounds : (f g : Forest LayoutNode) → Round P back (kept_asks f) f g → AreAskedAlike f g
  kept_bounds none none round = tt
  kept_bounds none (tree k w below rest) round = absurd round
  kept_bounds (tree h v kids more) none round = absurd round
  kept_bounds (tree h v kids more) (tree k w below rest) round = (one_asked v kids w below (visit_of v kids w below (kept_ask v) refl round.1), kept_bounds more rest round.2)

  -- ---- nothing in the window has to be laid out any more

  one_quiet : (v : LayoutNode) (kids : Forest LayoutNode) (w : LayoutNode) (below : Forest LayoutNode) (o : Option Ask) (at : Offset)
      → Here P v kids → HereAll P kids → ShownAs o at v → Visit v kids w below → w.shown ≡ true → IsQuiet P back w (AreQuiet P back below)
  one_quiet v kids w below None at here all stands (as_before e same alike) = λ shown. absurd (false_true (sym stands ∙ ap (λ (x : LayoutNode). x.shown) same ∙ shown))
  one_quiet v kids w below (Some b) at here all stands (as_before e same alike) = λ shown.
      let clear = passed v b e stands.shown stands.asked in
      subst (λ (f : Forest LayoutNode). IsQuiet P back w (AreQuiet P back f)) alike
      (subst (λ (x : LayoutNode). IsQuiet P back x (AreQuiet P back kids)) same (inr (clear.0, still_quiet P back kids all (here.marked clear.1))))
  one_quiet v kids w below o at here all stands (laid_out ask is lays) = λ shown. lays.quiet

  kept_quiet : (asks : List (Option Ask)) (places : List Offset) (f g : Forest LayoutNode) → HereAll P f → StandAs asks places f → Round P back (kept_asks f) f g → AreQuiet P back g
  kept_quiet asks places none none all stand round = tt
  kept_quiet asks places none (tree k w below rest) all stand round = absurd round
  kept_quiet asks places (tree h v kids more) none all stand round = absurd round
  kept_quiet asks places (tree h v kids more) (tree k w below rest) all stand round = (
    one_quiet v kids w below (ask_of asks) (place_of places) all.0 all.1 stand.0 (visit_of v kids w below (kept_ask v) refl round.1),
    kept_quiet (later asks) (past (ask_of asks) places) more rest all.2 stand.1 round.2,
  )

  -- ---- nothing of them is corrected but where full layout does

  one_corrected : (v : LayoutNode) (kids : Forest LayoutNode) (w : LayoutNode) (below : Forest LayoutNode) (o : Option Ask) (at : Offset)
      → ShownAs o at v → Visit v kids w below
      → CorrectedAs o (λ ask. IsCorrected P back ask v kids w below) (IsLeft v kids w below)
  one_corrected v kids w below None at stands (as_before e same alike) = record { value = ap (λ (x : LayoutNode). record x { shown = false }) (sym same); inside = sym alike }
  one_corrected v kids w below None at stands (laid_out ask is lays) = absurd (false_true (sym stands ∙ is.0))
  one_corrected v kids w below (Some b) at stands (as_before e same alike) =
      subst (λ (f : Forest LayoutNode). IsCorrected P back b v kids w f) alike
      (subst (λ (x : LayoutNode). IsCorrected P back b v kids x kids) same (inl refl, either_way (back v.look (Some b)) refl (corrected_self P back (asks_at P v b kids (objects P kids)) kids)))
  one_corrected v kids w below (Some b) at stands (laid_out ask is lays) =
      let one : ask ≡ b = same_Some (sym is.1 ∙ stands.asked) in
      subst (λ (a : Ask). IsCorrected P back a v kids w below) one lays.corrected

  one_member : (v : LayoutNode) (kids : Forest LayoutNode) (w : LayoutNode) (below : Forest LayoutNode) → Visit v kids w below → member v ≡ member w
  one_member v kids w below (as_before e same alike) = ap member same
  one_member v kids w below (laid_out ask is lays) = lays.member

  kept_corrected : (asks : List (Option Ask)) (places : List Offset) (f g : Forest LayoutNode) → StandAs asks places f → Round P back (kept_asks f) f g
      → AreCorrected P back asks f g
  kept_corrected asks places none none stand round = tt
  kept_corrected asks places none (tree k w below rest) stand round = absurd round
  kept_corrected asks places (tree h v kids more) none stand round = absurd round
  kept_corrected asks places (tree h v kids more) (tree k w below rest) stand round =
      let visit = visit_of v kids w below (kept_ask v) refl round.1 in (
        round.0,
        one_member v kids w below visit,
        one_corrected v kids w below (ask_of asks) (place_of places) stand.0 visit,
        kept_corrected (later asks) (past (ask_of asks) places) more rest stand.1 round.2,
      )

  -- ---- what its rule gives above them is as before

  kept_made : (v : LayoutNode) (ask : Ask) (kids mid : Forest LayoutNode) → HereAll P kids → SameMembers kids mid
      → ((P.blind v.look ≡ true) ⊎ AreFirm P kids) → Round P back (kept_asks kids) kids mid
      → made_at P v ask kids (stored kids) ≡ made_at P v ask mid (stored mid)
  kept_made v ask kids mid all same shut round = gifts ∙ same_made P v v v.scroll ask kids mid (stored mid) refl same
    where
      gifts : made_at P v ask kids (stored kids) ≡ made_at P v ask kids (stored mid)
      gifts = elim shut [
        | inl blind ↦
            law.blind_made (member v) v.scroll ask (P.liked v.look ask (members kids)) (tellings kids) (stored kids) (stored mid) blind
            (kept_count (kept_asks kids) kids mid round)
        | inr firm ↦ ap (λ (gs : List (Ask → Frame)). made_at P v ask kids gs) (kept_stored kids mid all firm round)
      ]

  kept_asked : (v : LayoutNode) (ask : Ask) (kids mid : Forest LayoutNode) → HereAll P kids → SameMembers kids mid
      → ((P.blind v.look ≡ true) ⊎ AreFirm P kids) → Round P back (kept_asks kids) kids mid
      → asks_at P v ask kids (stored kids) ≡ asks_at P v ask mid (stored mid)
  kept_asked v ask kids mid all same shut round = given ∙ same_asks P v v v.scroll ask kids mid (stored mid) refl same
    where
      given : asks_at P v ask kids (stored kids) ≡ asks_at P v ask kids (stored mid)
      given = elim shut [
        | inl blind ↦
            law.blind_asks (member v) v.scroll ask (P.liked v.look ask (members kids)) (tellings kids) (stored kids) (stored mid) blind
            (kept_count (kept_asks kids) kids mid round)
        | inr firm ↦ ap (λ (gs : List (Ask → Frame)). asks_at P v ask kids gs) (kept_stored kids mid all firm round)
      ]

  -- ---- the node itself

  pub kept : (v : LayoutNode) (ask : Ask) (kids mid : Forest LayoutNode)
      → Here P v kids → HereAll P kids → asked v ≡ Some ask → v.needs_layout ≡ false → back v.look (Some ask) ≡ false → Round P back (kept_asks kids) kids mid
      → LaysOut P back ask v kids (marked_below v (any_mark mid)) mid
  kept v ask kids mid here all is clear free round =
      let w = marked_below v (any_mark mid) in
      let given = here.consistent clear in
      let one : given.ask ≡ ask = same_Some (sym given.asked ∙ is) in
      let gives : RuleHolds P v ask kids (stored kids) = subst (λ (a : Ask). RuleHolds P v a kids (stored kids)) one given.gives in
      let same : SameMembers kids mid = round_same P back (kept_asks kids) kids mid round in
      let shut = here.closed clear in
      let made : made_at P w ask mid (stored mid) ≡ made_at P v ask kids (stored kids) = sym (kept_made v ask kids mid all same shut round) in
      let asks : asks_at P w ask mid (stored mid) ≡ asks_at P v ask kids (stored kids) = sym (kept_asked v ask kids mid all same shut round) in
      let full = answers_full P law kids all in
      let places = (made_at P v ask kids (stored kids)).places in
      let made_is : made_at P v ask kids (objects P kids) ≡ made_at P v ask kids (stored kids) = sym (made_full P law v ask kids places shut gives.placed full) in
      let asks_is : asks_at P v ask kids (objects P kids) ≡ asks_at P v ask kids (stored kids) = sym (asks_full P law v ask kids places shut gives.placed full) in
      let stands : StandAs (asks_at P v ask kids (objects P kids)) (made_at P v ask kids (objects P kids)).places kids =
      subst (λ (m : RuleGift). StandAs (asks_at P v ask kids (objects P kids)) m.places kids) (sym made_is)
      (subst (λ (xs : List (Option Ask)). StandAs xs places kids) (sym asks_is) gives.placed) in
      record {
        member = refl;
        same = same;
        shown = refl;
        offset = refl;
        here = record {
          consistent = λ c. record {
            ask = ask;
            asked = is;
            gives = record {
              facts = gives.facts ∙ ap (λ (m : RuleGift). Some m.facts) (sym made);
              scroll = ap (λ (m : RuleGift). scroll_after v.look m v.scroll) made ∙ gives.scroll;
              placed = subst (λ (m : RuleGift). StandAs (asks_at P w ask mid (stored mid)) m.places mid) (sym made)
                  (subst (λ (xs : List (Option Ask)). StandAs xs places mid) (sym asks)
                  (kept_stands (asks_at P v ask kids (stored kids)) places kids mid gives.placed round));
            };
          };
          closed = λ c. elim shut [ inl blind ↦ inl blind | inr firm ↦ inr (kept_firm kids mid firm round) ];
          marked = λ c. unmarked_of mid c;
        };
        all = round_here P back (kept_asks kids) kids mid all round;
        asked = is;
        settled = λ flag. absurd (false_true (sym clear ∙ flag));
        quiet = inr (clear, kept_quiet (asks_at P v ask kids (stored kids)) places kids mid all gives.placed round);
        corrected = (inl refl, not_held (mid ≡ kids) (back v.look (Some ask)) free (kept_corrected (asks_at P v ask kids (objects P kids)) (made_at P v ask kids (objects P kids)).places kids mid stands round));
      }
