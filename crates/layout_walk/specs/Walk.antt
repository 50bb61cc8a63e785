-- What a walk does to a subtree that it lays out.
use Rattle.std.specs.Prelude.{◌≡◌, ℕ, zero, suc, Bool, true, false, ◌||◌, ◌&&◌, if◌then◌else◌, Option, Some, None, List, [], ◌∷◌, ◌⊎◌}
use Rattle.fx_geom.specs.declared.shapes.Offset.{Offset}
use Rattle.node_tree.specs.Forest.{Forest}
use Rattle.node_tree.specs.Forest.Forest.{none, tree}
use Rattle.layout_form.specs.declared.asks.Ask.{Ask}
use Rattle.layout_walk.specs.Node.{LayoutNode, member, asked}
use Rattle.layout_walk.specs.Rule.{LayoutParts, RuleGift, ask_of, later, scroll_after}
use Rattle.layout_walk.specs.Full.{place_of, past, asks_at, made_at, objects}
use Rattle.layout_walk.specs.Here.{Here, HereAll, IsFirm, Backs, IsQuiet, AreQuiet}

-- the same nodes, with the same members
abbrev pub SameMembers : Forest LayoutNode → Forest LayoutNode → Type 0
SameMembers none none = Unit {0}
SameMembers none (tree k w below rest) = ⊥
SameMembers (tree h v kids more) none = ⊥
SameMembers (tree h v kids more) (tree k w below rest) =
    (h ≡ k) × (member v ≡ member w) × SameMembers kids below × SameMembers more rest

-- some Viewports that are laid out, by full layout, stand scrolled where it corrects them to; all others as before, also those
-- that full layout doesn't reach
abbrev pub MayCorrect : LayoutParts → LayoutNode → Ask → Forest LayoutNode → LayoutNode → Type 0
MayCorrect P v ask kids w = (w.scroll ≡ v.scroll) ⊎ (w.scroll ≡ scroll_after v.look (made_at P v ask kids (objects P kids)) v.scroll)

-- a node that isn't asked: nothing of it changes but whether it is in the window, and nothing below it
pub record IsLeft (v : LayoutNode) (kids : Forest LayoutNode) (w : LayoutNode) (below : Forest LayoutNode) : Type 0 where
  pub value : record w { shown = false } ≡ record v { shown = false }
  pub inside : below ≡ kids

abbrev pub CorrectedAs : Option Ask → (Ask → Type 0) → Type 0 → Type 0
CorrectedAs None laid unlaid = unlaid
CorrectedAs (Some ask) laid unlaid = laid ask

-- what is below a node that is held back is left alone
abbrev pub HeldOr : Bool → Type 0 → Type 0 → Type 0
HeldOr true held laid = held
HeldOr false held laid = laid

abbrev pub AreCorrected : LayoutParts → Backs → List (Option Ask) → Forest LayoutNode → Forest LayoutNode → Type 0
AreCorrected P back asks none none = Unit {0}
AreCorrected P back asks none (tree k w below rest) = ⊥
AreCorrected P back asks (tree h v kids more) none = ⊥
AreCorrected P back asks (tree h v kids more) (tree k w below rest) =
    (h ≡ k) × (member v ≡ member w)
    × CorrectedAs (ask_of asks)
    (λ ask. MayCorrect P v ask kids w × HeldOr (back v.look (Some ask)) (below ≡ kids) (AreCorrected P back (asks_at P v ask kids (objects P kids)) kids below))
    (IsLeft v kids w below)
    × AreCorrected P back (later asks) more rest

abbrev pub IsCorrected : LayoutParts → Backs → Ask → LayoutNode → Forest LayoutNode → LayoutNode → Forest LayoutNode → Type 0
IsCorrected P back ask v kids w below =
    MayCorrect P v ask kids w × HeldOr (back v.look (Some ask)) (below ≡ kids) (AreCorrected P back (asks_at P v ask kids (objects P kids)) kids below)

-- a node is asked so, and what it comes to: its frame holds the ask, it needn't be laid out, or its frame is what the ask gives
-- alone, and nothing that full layout sees is changed but offsets of Viewports that it corrects
pub record LaysOut (P : LayoutParts) (back : Backs) (ask : Ask) (v : LayoutNode) (kids : Forest LayoutNode) (w : LayoutNode) (below : Forest LayoutNode) : Type 0 where
  pub member : member v ≡ member w
  pub same : SameMembers kids below
  -- whether it is in the window and where it stands is its parent's business
  pub shown : w.shown ≡ v.shown
  pub offset : w.offset ≡ v.offset
  pub here : Here P w below
  pub all : HereAll P below
  pub asked : asked w ≡ Some ask
  pub settled : w.needs_layout ≡ true → IsFirm P w
  pub quiet : IsQuiet P back w (AreQuiet P back below)
  pub corrected : IsCorrected P back ask v kids w below

-- a node stands laid out as it is asked, whatever was done to it and below it
pub record IsLaid (P : LayoutParts) (back : Backs) (ask : Ask) (v : LayoutNode) (kids : Forest LayoutNode) (w : LayoutNode) (below : Forest LayoutNode) : Type 0 where
  pub asked : asked w ≡ Some ask
  pub settled : w.needs_layout ≡ true → IsFirm P w
  pub quiet : IsQuiet P back w (AreQuiet P back below)
  pub corrected : IsCorrected P back ask v kids w below

abbrev pub LaidSo : LayoutParts → Backs → Option Ask → LayoutNode → Forest LayoutNode → LayoutNode → Forest LayoutNode → Type 0
LaidSo P back None v kids w below = IsLeft v kids w below
LaidSo P back (Some ask) v kids w below = IsLaid P back ask v kids w below

abbrev pub AreLaid : LayoutParts → Backs → List (Option Ask) → Forest LayoutNode → Forest LayoutNode → Type 0
AreLaid P back asks none none = Unit {0}
AreLaid P back asks none (tree k w below rest) = ⊥
AreLaid P back asks (tree h v kids more) none = ⊥
AreLaid P back asks (tree h v kids more) (tree k w below rest) =
    LaidSo P back (ask_of asks) v kids w below × AreLaid P back (later asks) more rest

-- a tree is laid out as it is asked, or is as before
abbrev pub LaidAs : LayoutParts → Backs → Option Ask → LayoutNode → Forest LayoutNode → LayoutNode → Forest LayoutNode → Type 0
LaidAs P back None v kids w below = (v ≡ w) × (kids ≡ below)
LaidAs P back (Some ask) v kids w below = LaysOut P back ask v kids w below

-- the first n trees are laid out as they are asked, and the others are as before
abbrev pub Rounded : LayoutParts → Backs → ℕ → List (Option Ask) → Forest LayoutNode → Forest LayoutNode → Type 0
Rounded P back zero asks f g = f ≡ g
Rounded P back (suc n) asks none none = Unit {0}
Rounded P back (suc n) asks none (tree k w below rest) = ⊥
Rounded P back (suc n) asks (tree h v kids more) none = ⊥
Rounded P back (suc n) asks (tree h v kids more) (tree k w below rest) =
    (h ≡ k) × LaidAs P back (ask_of asks) v kids w below × Rounded P back n (later asks) more rest

-- all trees are laid out as they are asked
abbrev pub Round : LayoutParts → Backs → List (Option Ask) → Forest LayoutNode → Forest LayoutNode → Type 0
Round P back asks none none = Unit {0}
Round P back asks none (tree k w below rest) = ⊥
Round P back asks (tree h v kids more) none = ⊥
Round P back asks (tree h v kids more) (tree k w below rest) =
    (h ≡ k) × LaidAs P back (ask_of asks) v kids w below × Round P back (later asks) more rest

-- nobody is asked in both rounds
abbrev pub IsApart : Option Ask → Option Ask → Type 0
IsApart None after = Unit {0}
IsApart (Some ask) None = Unit {0}
IsApart (Some ask) (Some other) = ⊥

abbrev pub AskApart : List (Option Ask) → List (Option Ask) → Type 0
AskApart [] rest = Unit {0}
AskApart (before ∷ first) [] = Unit {0}
AskApart (before ∷ first) (after ∷ rest) = IsApart before after × AskApart first rest

-- ---- what is written

-- some tree has a mark
abbrev pub any_mark : Forest LayoutNode → Bool
any_mark none = false
any_mark (tree h v kids rest) = v.needs_layout || (v.layout_below || any_mark rest)

-- a tree in the window, as it stands, where it or something below it has to be laid out
abbrev pub kept_ask : LayoutNode → Option Ask
kept_ask v = if v.shown && (v.needs_layout || v.layout_below) then asked v else None

abbrev pub kept_asks : Forest LayoutNode → List (Option Ask)
kept_asks none = []
kept_asks (tree h v kids rest) = kept_ask v ∷ kept_asks rest

abbrev pub stood_as : Option Ask → Offset → LayoutNode → LayoutNode
stood_as None at v = record v { shown = false }
stood_as (Some ask) at v = record v { shown = true; offset = Some at }

-- each tree at its place, where it is asked, and out of the window where it isn't
abbrev pub stand_all : List (Option Ask) → List Offset → Forest LayoutNode → Forest LayoutNode
stand_all asks places none = none
stand_all asks places (tree h v kids rest) =
    tree h (stood_as (ask_of asks) (place_of places) v) kids (stand_all (later asks) (past (ask_of asks) places) rest)

-- a node after its rule gave this, with this mark for what is below it
abbrev pub ruled : LayoutNode → RuleGift → Bool → LayoutNode
ruled v made below = record v {
  scroll = scroll_after v.look made v.scroll;
  frame = Some made.facts.frame;
  notes = made.facts.notes;
  plugged = made.facts.plugged;
  scrolled = made.facts.scrolled;
  needs_layout = false;
  layout_below = below;
}

-- a node after its rule gave this, where what is below it was held back: it still has to be laid out
abbrev pub held_back : LayoutNode → RuleGift → LayoutNode
held_back v made = record v {
  frame = Some made.facts.frame;
  notes = made.facts.notes;
  plugged = made.facts.plugged;
  scrolled = made.facts.scrolled;
  needs_layout = true;
}

-- a node whose rule wasn't run
abbrev pub marked_below : LayoutNode → Bool → LayoutNode
marked_below v below = record v { layout_below = below }

-- each tree is asked as it was in its last layout
abbrev pub AreAskedAlike : Forest LayoutNode → Forest LayoutNode → Type 0
AreAskedAlike none none = Unit {0}
AreAskedAlike none (tree k w below rest) = ⊥
AreAskedAlike (tree h v kids more) none = ⊥
AreAskedAlike (tree h v kids more) (tree k w below rest) = (asked w ≡ asked v) × AreAskedAlike more rest
