-- Children put at their places, or out of the window.
use Rattle.std.proofs.Common.{inl, inr, ◌≡◌, ap, refl, sym, ◌∙◌, true, false, Option, Some, None, List, ◌∷◌, subst}
use Rattle.node_tree.proofs.ForestLemmas.{same_Some}
use Rattle.fx_geom.specs.declared.shapes.Offset.{Offset}
use Rattle.node_tree.specs.Forest.{Forest}
use Rattle.node_tree.specs.Forest.Forest.{none, tree}
use Rattle.plain_tree.specs.declared.laid.Frame.{Frame}
use Rattle.layout_form.specs.declared.asks.Ask.{Ask}
use Rattle.layout_walk.specs.Node.{LayoutNode, member, stored, frame_or}
use Rattle.layout_walk.specs.Rule.{LayoutParts, ask_of, later}
use Rattle.layout_walk.specs.Full.{place_of, past}
use Rattle.layout_walk.specs.Here.{ShownAs, StandAs, IsGiven, IsFirm, AreFirm, Here, HereAll, Backs, IsQuiet, AreQuiet}
use Rattle.layout_walk.specs.Walk.{IsLeft, SameMembers, LaidSo, AreLaid, stood_as, stand_all, CorrectedAs, AreCorrected, IsCorrected}
use Rattle.layout_walk.proofs.Same.{same_self}

stood_member : (o : Option Ask) (at : Offset) (v : LayoutNode) → member v ≡ member (stood_as o at v)
stood_member None at v = refl
stood_member (Some ask) at v = refl

pub stood_same : (asks : List (Option Ask)) (places : List Offset) (f : Forest LayoutNode) → SameMembers f (stand_all asks places f)
stood_same asks places none = tt
stood_same asks places (tree h v kids rest) =
    (refl, stood_member (ask_of asks) (place_of places) v, same_self kids, stood_same (later asks) (past (ask_of asks) places) rest)

stood_frame : (o : Option Ask) (at : Offset) (v : LayoutNode) → (stood_as o at v).frame ≡ v.frame
stood_frame None at v = refl
stood_frame (Some ask) at v = refl

pub stood_stored : (asks : List (Option Ask)) (places : List Offset) (f : Forest LayoutNode) → stored f ≡ stored (stand_all asks places f)
stood_stored asks places none = refl
stood_stored asks places (tree h v kids rest) =
    ap (λ (o : Option Frame). (λ (ask : Ask). frame_or o) ∷ stored rest) (sym (stood_frame (ask_of asks) (place_of places) v))
    ∙ ap (λ (gs : List (Ask → Frame)). (λ (ask : Ask). frame_or (stood_as (ask_of asks) (place_of places) v).frame) ∷ gs)
    (stood_stored (later asks) (past (ask_of asks) places) rest)

given_out : (P : LayoutParts) (v : LayoutNode) (kids : Forest LayoutNode) → IsGiven P v kids (stored kids) → IsGiven P (record v { shown = false }) kids (stored kids)
given_out P v kids given = record { ask = given.ask; asked = given.asked; gives = record { facts = given.gives.facts; scroll = given.gives.scroll; placed = given.gives.placed } }

given_at : (P : LayoutParts) (at : Offset) (v : LayoutNode) (kids : Forest LayoutNode) → IsGiven P v kids (stored kids)
    → IsGiven P (record v { shown = true; offset = Some at }) kids (stored kids)
given_at P at v kids given = record { ask = given.ask; asked = given.asked; gives = record { facts = given.gives.facts; scroll = given.gives.scroll; placed = given.gives.placed } }

pub stood_here : (P : LayoutParts) (o : Option Ask) (at : Offset) (v : LayoutNode) (kids : Forest LayoutNode) → Here P v kids → Here P (stood_as o at v) kids
stood_here P None at v kids here = record { consistent = λ clear. given_out P v kids (here.consistent clear); closed = here.closed; marked = here.marked }
stood_here P (Some ask) at v kids here = record { consistent = λ clear. given_at P at v kids (here.consistent clear); closed = here.closed; marked = here.marked }

pub stood_all : (P : LayoutParts) (asks : List (Option Ask)) (places : List Offset) (f : Forest LayoutNode) → HereAll P f → HereAll P (stand_all asks places f)
stood_all P asks places none all = tt
stood_all P asks places (tree h v kids rest) all =
    (stood_here P (ask_of asks) (place_of places) v kids all.0, all.1, stood_all P (later asks) (past (ask_of asks) places) rest all.2)

stood_shown : (P : LayoutParts) (back : Backs) (o : Option Ask) (at : Offset) (v : LayoutNode) (kids : Forest LayoutNode) (w : LayoutNode) (below : Forest LayoutNode)
    → LaidSo P back o v kids w below → ShownAs o at (stood_as o at w)
stood_shown P back None at v kids w below laid = refl
stood_shown P back (Some ask) at v kids w below laid = record { shown = refl; asked = laid.asked; offset = refl }

pub stood_stand : (P : LayoutParts) (back : Backs) (asks : List (Option Ask)) (places : List Offset) (f g : Forest LayoutNode)
    → AreLaid P back asks f g → StandAs asks places (stand_all asks places g)
stood_stand P back asks places none none laid = tt
stood_stand P back asks places none (tree k w below rest) laid = absurd laid
stood_stand P back asks places (tree h v kids more) none laid = absurd laid
stood_stand P back asks places (tree h v kids more) (tree k w below rest) laid =
    (stood_shown P back (ask_of asks) (place_of places) v kids w below laid.0, stood_stand P back (later asks) (past (ask_of asks) places) more rest laid.1)

some_none : {A : Type 0} (x : A) → Some x ≡ None → ⊥
some_none x e = cc

pub false_true : false ≡ true → ⊥
false_true e = cc

one_firm : (P : LayoutParts) (back : Backs) (o : Option Ask) (at : Offset) (v : LayoutNode) (kids : Forest LayoutNode) (w : LayoutNode) (below : Forest LayoutNode)
    → LaidSo P back o v kids w below → (stood_as o at w).shown ≡ true → (stood_as o at w).needs_layout ≡ true → IsFirm P (stood_as o at w)
one_firm P back None at v kids w below laid shown flag = absurd (false_true shown)
one_firm P back (Some ask) at v kids w below laid shown flag =
    let firm = laid.settled flag in record { frame = firm.frame; stored = firm.stored; fixed = firm.fixed }

pub stood_firm : (P : LayoutParts) (back : Backs) (asks : List (Option Ask)) (places : List Offset) (f g : Forest LayoutNode)
    → AreLaid P back asks f g → AreFirm P (stand_all asks places g)
stood_firm P back asks places none none laid = tt
stood_firm P back asks places none (tree k w below rest) laid = absurd laid
stood_firm P back asks places (tree h v kids more) none laid = absurd laid
stood_firm P back asks places (tree h v kids more) (tree k w below rest) laid =
    (one_firm P back (ask_of asks) (place_of places) v kids w below laid.0, stood_firm P back (later asks) (past (ask_of asks) places) more rest laid.1)

held_at : (P : LayoutParts) (back : Backs) (ask : Ask) (at : Offset) (w : LayoutNode) (T : Type 0) → IsQuiet P back w T → IsQuiet P back (stood_as (Some ask) at w) T
held_at P back ask at w T (inl held) = inl (record { holds = held.holds; firm = record { frame = held.firm.frame; stored = held.firm.stored; fixed = held.firm.fixed } })
held_at P back ask at w T (inr clear) = inr clear

one_quiet : (P : LayoutParts) (back : Backs) (o : Option Ask) (at : Offset) (v : LayoutNode) (kids : Forest LayoutNode) (w : LayoutNode) (below : Forest LayoutNode)
    → LaidSo P back o v kids w below → (stood_as o at w).shown ≡ true → IsQuiet P back (stood_as o at w) (AreQuiet P back below)
one_quiet P back None at v kids w below laid shown = absurd (false_true shown)
one_quiet P back (Some ask) at v kids w below laid shown = held_at P back ask at w (AreQuiet P back below) laid.quiet

pub stood_quiet : (P : LayoutParts) (back : Backs) (asks : List (Option Ask)) (places : List Offset) (f g : Forest LayoutNode)
    → AreLaid P back asks f g → AreQuiet P back (stand_all asks places g)
stood_quiet P back asks places none none laid = tt
stood_quiet P back asks places none (tree k w below rest) laid = absurd laid
stood_quiet P back asks places (tree h v kids more) none laid = absurd laid
stood_quiet P back asks places (tree h v kids more) (tree k w below rest) laid =
    (one_quiet P back (ask_of asks) (place_of places) v kids w below laid.0, stood_quiet P back (later asks) (past (ask_of asks) places) more rest laid.1)

-- nothing of it is corrected, but what was before
one_corrected : (P : LayoutParts) (back : Backs) (o oo : Option Ask) (at : Offset) (v : LayoutNode) (kids : Forest LayoutNode) (w : LayoutNode) (below : Forest LayoutNode)
    → o ≡ oo → SameMembers kids below → LaidSo P back oo v kids w below
    → CorrectedAs o (λ ask. IsCorrected P back ask v kids (stood_as oo at w) below) (IsLeft v kids (stood_as oo at w) below)
one_corrected P back None None at v kids w below e same laid = record { value = laid.value; inside = laid.inside }
one_corrected P back None (Some other) at v kids w below e same laid = absurd (some_none other (sym e))
one_corrected P back (Some ask) None at v kids w below e same laid = absurd (some_none ask e)
one_corrected P back (Some ask) (Some other) at v kids w below e same laid =
    subst (λ (a : Ask). IsCorrected P back a v kids (stood_as (Some other) at w) below) (sym (same_Some e)) laid.corrected

pub stood_corrected : (P : LayoutParts) (back : Backs) (asks : List (Option Ask)) (places : List Offset) (f g : Forest LayoutNode) → SameMembers f g → AreLaid P back asks f g
    → AreCorrected P back asks f (stand_all asks places g)
stood_corrected P back asks places none none same laid = tt
stood_corrected P back asks places none (tree k w below rest) same laid = absurd laid
stood_corrected P back asks places (tree h v kids more) none same laid = absurd laid
stood_corrected P back asks places (tree h v kids more) (tree k w below rest) same laid = (
  same.0,
  same.1 ∙ stood_member (ask_of asks) (place_of places) w,
  one_corrected P back (ask_of asks) (ask_of asks) (place_of places) v kids w below refl same.2 laid.0,
  stood_corrected P back (later asks) (past (ask_of asks) places) more rest same.3 laid.1,
)
