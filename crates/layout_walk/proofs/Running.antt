-- A node whose rule is run: what its rule gives is stored, its children stand where it puts them.
use Rattle.std.proofs.Common.{◌≡◌, ap, refl, sym, subst, ◌∙◌, inr, ℕ, Bool, true, false, ◌||◌, Option, Some, List}
use Rattle.layout_walk.proofs.Correcting.{not_held, twice_scrolled}
use Rattle.node_tree.specs.Forest.{Forest}
use Rattle.node_tree.specs.Forest.Forest.{none, tree}
use Rattle.plain_tree.specs.declared.laid.Frame.{Frame}
use Rattle.plain_tree.specs.RenderRole.{render_role_of}
use Rattle.layout_form.specs.declared.asks.Ask.{Ask}
use Rattle.layout_walk.specs.Node.{LayoutNode, member, members, tellings, stored, asked}
use Rattle.layout_walk.specs.Rule.{LayoutParts, RuleGift, asks_by, made_by, scroll_after, Lawful}
use Rattle.layout_walk.specs.Full.{asks_at, made_at, objects}
use Rattle.layout_walk.specs.Here.{StandAs, RuleHolds, AreFirm, HereAll, Unmarked, Backs}
use Rattle.layout_walk.specs.Walk.{SameMembers, AreLaid, LaysOut, any_mark, stand_all, ruled, AreCorrected, IsCorrected}
use Rattle.layout_walk.proofs.Fresh.{answers_full, made_full, asks_full}
use Rattle.layout_walk.proofs.Same.{same_self, same_trans, same_made, same_asks, same_objects}
use Rattle.layout_walk.proofs.Standing.{false_true, stood_same, stood_stored, stood_all, stood_stand, stood_firm, stood_quiet, stood_corrected}

ruled_member : (v : LayoutNode) (made : RuleGift) (mark : Bool) → member v ≡ member (ruled v made mark)
ruled_member v made mark =
    ap (λ (n : ℕ). record { number = v.number; look = v.look; told = v.told; count = v.count; scroll = n })
    (sym (twice_scrolled (render_role_of v.look) (Some made.facts.scrolled) (Some 0) v.scroll 0 refl))

-- ---- marks

pub or_false : (a b : Bool) → (a || b) ≡ false → (a ≡ false) × (b ≡ false)
or_false true b e = absurd (false_true (sym e))
or_false false b e = (refl, e)

pub unmarked_of : (f : Forest LayoutNode) → any_mark f ≡ false → Unmarked f
unmarked_of none e = tt
unmarked_of (tree h v kids rest) e =
    let one = or_false v.needs_layout (v.layout_below || any_mark rest) e in
    let two = or_false v.layout_below (any_mark rest) one.1 in
    (one.0, two.0, unmarked_of rest two.1)

-- ---- the rule

-- the children after all that is asked was laid out, at their places
module _ (P : LayoutParts) (law : Lawful P) (back : Backs) (v : LayoutNode) (ask : Ask) (kids mid : Forest LayoutNode)
    (same : SameMembers kids mid) (all : HereAll P mid)
    (laid : AreLaid P back (asks_at P v ask mid (stored mid)) kids mid) where
  abbrev asks_now : List (Option Ask)
  asks_now = asks_at P v ask mid (stored mid)

  abbrev made_now : RuleGift
  made_now = made_at P v ask mid (stored mid)

  abbrev pub kids_after : Forest LayoutNode
  kids_after = stand_all asks_now made_now.places mid

  abbrev pub node_after : LayoutNode
  node_after = ruled v made_now (any_mark kids_after)

  stood : SameMembers mid kids_after
  stood = stood_same asks_now made_now.places mid

  pub same_after : SameMembers kids kids_after
  same_after = same_trans kids mid kids_after same stood

  all_after : HereAll P kids_after
  all_after = stood_all P asks_now made_now.places mid all

  firm_after : AreFirm P kids_after
  firm_after = stood_firm P back asks_now made_now.places kids mid laid

  -- what the rule gives above the children as they stand now
  made_stored : made_at P v ask kids_after (stored kids_after) ≡ made_now
  made_stored =
      ap (λ (gs : List (Ask → Frame)). made_at P v ask kids_after gs) (sym (stood_stored asks_now made_now.places mid))
      ∙ sym (same_made P v v v.scroll ask mid kids_after (stored mid) refl stood)

  asks_stored : asks_at P v ask kids_after (stored kids_after) ≡ asks_now
  asks_stored =
      ap (λ (gs : List (Ask → Frame)). asks_at P v ask kids_after gs) (sym (stood_stored asks_now made_now.places mid))
      ∙ sym (same_asks P v v v.scroll ask mid kids_after (stored mid) refl stood)

  stand_now : StandAs asks_now made_now.places kids_after
  stand_now = stood_stand P back asks_now made_now.places kids mid laid

  stand_stored : StandAs (asks_at P v ask kids_after (stored kids_after)) made_now.places kids_after
  stand_stored = subst (λ (xs : List (Option Ask)). StandAs xs made_now.places kids_after) (sym asks_stored) stand_now

  made_objects : made_at P v ask kids_after (objects P kids_after) ≡ made_now
  made_objects = sym (made_full P law v ask kids_after made_now.places (inr firm_after) stand_stored (answers_full P law kids_after all_after)) ∙ made_stored

  asks_objects : asks_at P v ask kids_after (objects P kids_after) ≡ asks_now
  asks_objects = sym (asks_full P law v ask kids_after made_now.places (inr firm_after) stand_stored (answers_full P law kids_after all_after)) ∙ asks_stored

  -- the same with the corrected offset
  after_made : (gs : List (Ask → Frame)) → made_at P v ask kids_after gs ≡ made_now → made_at P node_after ask kids_after gs ≡ made_now
  after_made gs e =
      sym (same_made P v node_after node_after.scroll ask kids_after kids_after gs (ruled_member v made_now (any_mark kids_after)) (same_self kids_after))
      ∙ ap (λ (m : RuleGift). made_by P (member v) (scroll_after v.look m v.scroll) ask (P.liked v.look ask (members kids_after)) (tellings kids_after) gs) (sym e)
      ∙ law.stays_made (member v) v.scroll ask (P.liked v.look ask (members kids_after)) (tellings kids_after) gs
      ∙ e

  after_asks : (gs : List (Ask → Frame)) → made_at P v ask kids_after gs ≡ made_now → asks_at P v ask kids_after gs ≡ asks_now → asks_at P node_after ask kids_after gs ≡ asks_now
  after_asks gs e ea =
      sym (same_asks P v node_after node_after.scroll ask kids_after kids_after gs (ruled_member v made_now (any_mark kids_after)) (same_self kids_after))
      ∙ ap (λ (m : RuleGift). asks_by P (member v) (scroll_after v.look m v.scroll) ask (P.liked v.look ask (members kids_after)) (tellings kids_after) gs) (sym e)
      ∙ law.stays_asked (member v) v.scroll ask (P.liked v.look ask (members kids_after)) (tellings kids_after) gs
      ∙ ea

  gives_after : RuleHolds P node_after ask kids_after (stored kids_after)
  gives_after =
      let made = after_made (stored kids_after) made_stored in
      let asks = after_asks (stored kids_after) made_stored asks_stored in
      record {
        facts = ap (λ (m : RuleGift). Some m.facts) (sym made);
        scroll = ap (λ (m : RuleGift). scroll_after v.look m node_after.scroll) made
            ∙ twice_scrolled (render_role_of v.look) (Some made_now.facts.scrolled) (Some made_now.facts.scrolled) v.scroll made_now.facts.scrolled refl;
        placed = subst (λ (m : RuleGift). StandAs (asks_at P node_after ask kids_after (stored kids_after)) m.places kids_after) (sym made)
            (subst (λ (xs : List (Option Ask)). StandAs xs made_now.places kids_after) (sym asks) stand_now);
      }

  asked_after : asked node_after ≡ Some ask
  asked_after = ap (λ (a : Ask). Some a) (law.asked (member v) v.scroll ask (P.liked v.look ask (members mid)) (tellings mid) (stored mid))

  pub asked_full : asks_at P v ask kids (objects P kids) ≡ asks_now
  asked_full =
      ap (λ (gs : List (Ask → Frame)). asks_at P v ask kids gs) (same_objects P law kids kids_after same_after)
      ∙ same_asks P v v v.scroll ask kids kids_after (objects P kids_after) refl same_after
      ∙ asks_objects

  made_full_layout : made_at P v ask kids (objects P kids) ≡ made_now
  made_full_layout =
      ap (λ (gs : List (Ask → Frame)). made_at P v ask kids gs) (same_objects P law kids kids_after same_after)
      ∙ same_made P v v v.scroll ask kids kids_after (objects P kids_after) refl same_after
      ∙ made_objects

  corrected_after : back v.look (Some ask) ≡ false → IsCorrected P back ask v kids node_after kids_after
  corrected_after free = (
    inr (ap (λ (m : RuleGift). scroll_after v.look m v.scroll) (sym made_full_layout)),
    not_held (kids_after ≡ kids) (back v.look (Some ask)) free
        (subst (λ (xs : List (Option Ask)). AreCorrected P back xs kids kids_after) (sym asked_full) (stood_corrected P back asks_now made_now.places kids mid same laid)),
  )

  pub ran : back v.look (Some ask) ≡ false → LaysOut P back ask v kids node_after kids_after
  ran free = record {
    member = ruled_member v made_now (any_mark kids_after);
    same = same_after;
    shown = refl;
    offset = refl;
    here = record {
      consistent = λ clear. record { ask = ask; asked = asked_after; gives = gives_after };
      closed = λ clear. inr firm_after;
      marked = λ clear. unmarked_of kids_after clear;
    };
    all = all_after;
    asked = asked_after;
    settled = λ flag. absurd (false_true flag);
    quiet = inr (refl, stood_quiet P back asks_now made_now.places kids mid laid);
    corrected = corrected_after free;
  }
