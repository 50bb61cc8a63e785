-- What is stored of the nodes that needn't be laid out is what full layout gives to them.
use Rattle.std.proofs.Common.{◌≡◌, ap, sym, subst, ◌∙◌, ◌⊎◌, inl, inr, true, Option, Some, None, List, option_map}
use Rattle.std.proofs.lemmas.Bool.{cases_Bool}
use Rattle.fx_geom.specs.declared.shapes.Offset.{Offset}
use Rattle.node_tree.specs.Forest.{Forest}
use Rattle.node_tree.specs.Forest.Forest.{none, tree}
use Rattle.node_tree.proofs.ForestLemmas.{same_Some}
use Rattle.plain_tree.specs.declared.laid.Facts.{Facts}
use Rattle.plain_tree.specs.declared.laid.Frame.{Frame}
use Rattle.layout_form.specs.declared.asks.Ask.{Ask}
use Rattle.layout_walk.specs.Node.{LayoutNode, member, members, tellings, stored, frame_or, facts_with, ask_in, asked}
use Rattle.layout_walk.specs.Rule.{LayoutParts, RuleGift, scroll_after, AnswerAlike, SameAnswer, ask_of, later, Lawful}
use Rattle.layout_walk.specs.Full.{asks_at, made_at, objects, place_of, past}
use Rattle.layout_walk.specs.Here.{ShownAs, StandAs, IsGiven, IsFirm, AreFirm, Here, HereAll, AreFresh}
use Rattle.layout_walk.proofs.Answering.{stored_steady, objects_steady, objects_are, length-objects}

pub none_some : {A : Type 0} (x : A) → None ≡ Some x → ⊥
none_some x e = cc

-- facts that are stored have the stored frame
pub stored_frame : (v : LayoutNode) (o : Option Frame) (facts : Facts) → option_map (facts_with v) o ≡ Some facts → o ≡ Some facts.frame
stored_frame v None facts e = absurd (none_some facts e)
stored_frame v (Some frame) facts e = ap (λ (x : Facts). Some x.frame) (same_Some e)

-- children answer as by full layout
abbrev pub AnswersFull : LayoutParts → Forest LayoutNode → Type 0
AnswersFull P f = (asks : List (Option Ask)) (places : List Offset) → AreFirm P f → StandAs asks places f → AnswerAlike asks (stored f) (objects P f)

-- a rule gives the same above children that answer so as by full layout
pub made_full : (P : LayoutParts) → Lawful P → (v : LayoutNode) (ask : Ask) (kids : Forest LayoutNode) (places : List Offset)
    → ((P.blind v.look ≡ true) ⊎ AreFirm P kids) → StandAs (asks_at P v ask kids (stored kids)) places kids → AnswersFull P kids
    → made_at P v ask kids (stored kids) ≡ made_at P v ask kids (objects P kids)
made_full P law v ask kids places closed stand full = elim closed [
  | inl blind ↦ law.blind_made (member v) v.scroll ask (P.liked v.look ask (members kids)) (tellings kids) (stored kids) (objects P kids) blind (length-objects P kids)
  | inr firm ↦
      law.alike_made (member v) v.scroll ask (P.liked v.look ask (members kids)) (tellings kids) (stored kids) (objects P kids)
      (stored_steady kids) (objects_steady (objects P kids) (objects_are P law kids)) (full (asks_at P v ask kids (stored kids)) places firm stand)
]

pub asks_full : (P : LayoutParts) → Lawful P → (v : LayoutNode) (ask : Ask) (kids : Forest LayoutNode) (places : List Offset)
    → ((P.blind v.look ≡ true) ⊎ AreFirm P kids) → StandAs (asks_at P v ask kids (stored kids)) places kids → AnswersFull P kids
    → asks_at P v ask kids (stored kids) ≡ asks_at P v ask kids (objects P kids)
asks_full P law v ask kids places closed stand full = elim closed [
  | inl blind ↦ law.blind_asks (member v) v.scroll ask (P.liked v.look ask (members kids)) (tellings kids) (stored kids) (objects P kids) blind (length-objects P kids)
  | inr firm ↦
      law.alike_asks (member v) v.scroll ask (P.liked v.look ask (members kids)) (tellings kids) (stored kids) (objects P kids)
      (stored_steady kids) (objects_steady (objects P kids) (objects_are P law kids)) (full (asks_at P v ask kids (stored kids)) places firm stand)
]

-- what is given where the children answer so is given where they answer as by full layout
pub given_full : (P : LayoutParts) → Lawful P → (v : LayoutNode) (kids : Forest LayoutNode)
    → ((P.blind v.look ≡ true) ⊎ AreFirm P kids) → AnswersFull P kids → IsGiven P v kids (stored kids) → IsGiven P v kids (objects P kids)
given_full P law v kids closed full given =
    let ask = given.ask in
    let places = (made_at P v ask kids (stored kids)).places in
    let made : made_at P v ask kids (stored kids) ≡ made_at P v ask kids (objects P kids) = made_full P law v ask kids places closed given.gives.placed full in
    let asks : asks_at P v ask kids (stored kids) ≡ asks_at P v ask kids (objects P kids) = asks_full P law v ask kids places closed given.gives.placed full in
    record {
      ask = ask;
      asked = given.asked;
      gives = record {
        facts = given.gives.facts ∙ ap (λ (m : RuleGift). Some m.facts) made;
        scroll = ap (λ (m : RuleGift). scroll_after v.look m v.scroll) (sym made) ∙ given.gives.scroll;
        placed = subst (λ (xs : List (Option Ask)). StandAs xs (made_at P v ask kids (objects P kids)).places kids) asks
            (subst (λ (m : RuleGift). StandAs (asks_at P v ask kids (stored kids)) m.places kids) made given.gives.placed);
      };
    }

-- a node that needn't be laid out, or is firm, has the frame that full layout gives to it, in the bounds of its last layout
pub frame_full : (P : LayoutParts) → Lawful P → (v : LayoutNode) (kids : Forest LayoutNode) (ask : Ask)
    → Here P v kids → AnswersFull P kids → asked v ≡ Some ask → (v.needs_layout ≡ true → IsFirm P v)
    → v.frame ≡ Some (made_at P v ask kids (objects P kids)).facts.frame
frame_full P law v kids ask here full is firm = elim (cases_Bool v.needs_layout) [
  | inl flagged ↦ of_firm (firm flagged)
  | inr clear ↦ of_given (given_full P law v kids (here.closed clear) full (here.consistent clear))
]
  where
    of_given : IsGiven P v kids (objects P kids) → v.frame ≡ Some (made_at P v ask kids (objects P kids)).facts.frame
    of_given given =
        let same : given.ask ≡ ask = same_Some (sym given.asked ∙ is) in
        stored_frame v v.frame (made_at P v given.ask kids (objects P kids)).facts given.gives.facts
        ∙ ap (λ (a : Ask). Some (made_at P v a kids (objects P kids)).facts.frame) same

    of_firm : IsFirm P v → v.frame ≡ Some (made_at P v ask kids (objects P kids)).facts.frame
    of_firm f =
        let same : ask_in f.frame ≡ ask = same_Some (sym (ap (λ (o : Option Frame). option_map ask_in o) f.stored) ∙ is) in
        let fixed : P.fixed (member v) ask ≡ Some f.frame = subst (λ (a : Ask). P.fixed (member v) a ≡ Some f.frame) same f.fixed in
        f.stored ∙ ap (λ (x : Frame). Some x) (sym (law.fixed (member v) v.scroll ask (P.liked v.look ask (members kids)) (tellings kids) (objects P kids) f.frame (objects_are P law kids) fixed))

-- a child that is asked answers as by full layout, where those below it do
answer_full : (P : LayoutParts) → Lawful P → (v : LayoutNode) (kids : Forest LayoutNode) → Here P v kids → AnswersFull P kids
    → (v.shown ≡ true → v.needs_layout ≡ true → IsFirm P v)
    → (o : Option Ask) (at : Offset) → ShownAs o at v → SameAnswer o (λ ask. frame_or v.frame) (λ ask. (made_at P v ask kids (objects P kids)).facts.frame)
answer_full P law v kids here full firm None at stands = tt
answer_full P law v kids here full firm (Some ask) at stands = ap frame_or (frame_full P law v kids ask here full stands.asked (firm stands.shown))

-- stored children, as they stand, answer as by full layout
pub answers_full : (P : LayoutParts) → Lawful P → (f : Forest LayoutNode) → HereAll P f → AnswersFull P f
unfolding objects
answers_full P law none all asks places firm stand = tt
answers_full P law (tree h v kids rest) all asks places firm stand = (
  answer_full P law v kids all.0 (answers_full P law kids all.1) firm.0 (ask_of asks) (place_of places) stand.0,
  answers_full P law rest all.2 (later asks) (past (ask_of asks) places) firm.1 stand.1,
)

pub fresh : (P : LayoutParts) → Lawful P → (f : Forest LayoutNode) → HereAll P f → AreFresh P f
fresh P law none all = tt
fresh P law (tree h v kids rest) all =
    ((λ clear. given_full P law v kids (all.0.closed clear) (answers_full P law kids all.1) (all.0.consistent clear)), fresh P law kids all.1, fresh P law rest all.2)
