-- What holds of a render tree between layouts, at each node and its children; what it comes to for whole subtrees are laws.
use Rattle.std.specs.Prelude.{◌≡◌, ◌⊎◌, Bool, true, false, Option, IsSome, Some, None, List}
use Rattle.fx_geom.specs.declared.shapes.Offset.{Offset}
use Rattle.node_tree.specs.Forest.{Forest}
use Rattle.node_tree.specs.Forest.Forest.{none, tree}
use Rattle.widget_model.specs.Look.{Look}
use Rattle.plain_tree.specs.declared.laid.Frame.{Frame}
use Rattle.layout_form.specs.declared.asks.Ask.{Ask}
use Rattle.layout_walk.specs.Node.{LayoutNode, member, facts_in, stored, ask_in, asked}
use Rattle.layout_walk.specs.Rule.{LayoutParts, ask_of, later, scroll_after}
use Rattle.layout_walk.specs.Full.{asks_at, made_at, objects, place_of, past}

-- a child that isn't asked isn't in the window; any other is, in the bounds that it was asked in and at its place
pub record IsShownAt (ask : Ask) (at : Offset) (v : LayoutNode) : Type 0 where
  pub shown : v.shown ≡ true
  pub asked : asked v ≡ Some ask
  pub offset : v.offset ≡ Some at

abbrev pub ShownAs : Option Ask → Offset → LayoutNode → Type 0
ShownAs None at v = v.shown ≡ false
ShownAs (Some ask) at v = IsShownAt ask at v

abbrev pub StandAs : List (Option Ask) → List Offset → Forest LayoutNode → Type 0
StandAs asks places none = Unit {0}
StandAs asks places (tree h v kids rest) = ShownAs (ask_of asks) (place_of places) v × StandAs (later asks) (past (ask_of asks) places) rest

-- what is stored of a node and of how its children stand is what its rule gives, where the children answer so; a Viewport
-- stands scrolled where its rule corrects it to
pub record RuleHolds (P : LayoutParts) (v : LayoutNode) (ask : Ask) (kids : Forest LayoutNode) (gs : List (Ask → Frame)) : Type 0 where
  pub facts : facts_in v ≡ Some (made_at P v ask kids gs).facts
  pub scroll : scroll_after v.look (made_at P v ask kids gs) v.scroll ≡ v.scroll
  pub placed : StandAs (asks_at P v ask kids gs) (made_at P v ask kids gs).places kids

-- a node that was laid out, and whose stored layout its rule gives
pub record IsGiven (P : LayoutParts) (v : LayoutNode) (kids : Forest LayoutNode) (gs : List (Ask → Frame)) : Type 0 where
  pub ask : Ask
  pub asked : asked v ≡ Some ask
  pub gives : RuleHolds P v ask kids gs

-- the stored frame is the one that what was asked gives alone
pub record IsFirm (P : LayoutParts) (v : LayoutNode) : Type 0 where
  pub frame : Frame
  pub stored : v.frame ≡ Some frame
  pub fixed : P.fixed (member v) (ask_in frame) ≡ Some frame

-- each tree in the window that has to be laid out is firm
abbrev pub AreFirm : LayoutParts → Forest LayoutNode → Type 0
AreFirm P none = Unit {0}
AreFirm P (tree h v kids rest) = (v.shown ≡ true → v.needs_layout ≡ true → IsFirm P v) × AreFirm P rest

-- no tree has to be laid out, nor may anything below it have to be
abbrev pub Unmarked : Forest LayoutNode → Type 0
Unmarked none = Unit {0}
Unmarked (tree h v kids rest) = (v.needs_layout ≡ false) × (v.layout_below ≡ false) × Unmarked rest

-- a node and its children. A node that was never laid out has to be.
pub record Here (P : LayoutParts) (v : LayoutNode) (kids : Forest LayoutNode) : Type 0 where
  pub consistent : v.needs_layout ≡ false → IsGiven P v kids (stored kids)
  pub closed : v.needs_layout ≡ false → (P.blind v.look ≡ true) ⊎ AreFirm P kids
  pub marked : v.layout_below ≡ false → Unmarked kids

abbrev pub HereAll : LayoutParts → Forest LayoutNode → Type 0
HereAll P none = Unit {0}
HereAll P (tree h v kids rest) = Here P v kids × HereAll P kids × HereAll P rest

-- ---- the same, by the members of a child

-- what it was asked in its last layout gives its frame alone
abbrev pub EndsItself : LayoutParts → LayoutNode → Type 0
EndsItself P v = (ask : Ask) × (asked v ≡ Some ask) × IsSome (P.fixed (member v) ask)

-- each tree in the window that has to be laid out is such a one
abbrev pub AreApart : LayoutParts → Forest LayoutNode → Type 0
AreApart P none = Unit {0}
AreApart P (tree h v kids rest) = (v.shown ≡ true → v.needs_layout ≡ true → EndsItself P v) × AreApart P rest

-- each tree in the window whose frame is given so has that frame
abbrev pub HaveFixed : LayoutParts → Forest LayoutNode → Type 0
HaveFixed P none = Unit {0}
HaveFixed P (tree h v kids rest) =
    (v.shown ≡ true → (ask : Ask) (frame : Frame) → asked v ≡ Some ask → P.fixed (member v) ask ≡ Some frame → v.frame ≡ Some frame) × HaveFixed P rest

-- ---- for whole subtrees

-- what is stored of each node that needn't be laid out is what full layout gives to it, in the bounds of its last layout
abbrev pub AreFresh : LayoutParts → Forest LayoutNode → Type 0
AreFresh P none = Unit {0}
AreFresh P (tree h v kids rest) = (v.needs_layout ≡ false → IsGiven P v kids (objects P kids)) × AreFresh P kids × AreFresh P rest

-- nothing in the window has to be laid out; where an outer flush holds nodes back, by their kind and what they were asked, these
-- and what is below them may have to be, but each has the frame that its bounds alone give
abbrev pub Backs : Type 0
Backs = Look → Option Ask → Bool

pub record IsHeldBack (P : LayoutParts) (back : Backs) (v : LayoutNode) : Type 0 where
  pub holds : back v.look (asked v) ≡ true
  pub firm : IsFirm P v

abbrev pub IsQuiet : LayoutParts → Backs → LayoutNode → Type 0 → Type 0
IsQuiet P back v below = IsHeldBack P back v ⊎ ((v.needs_layout ≡ false) × below)

abbrev pub AreQuiet : LayoutParts → Backs → Forest LayoutNode → Type 0
AreQuiet P back none = Unit {0}
AreQuiet P back (tree h v kids rest) = (v.shown ≡ true → IsQuiet P back v (AreQuiet P back kids)) × AreQuiet P back rest

-- a flush holds nobody back; an outer flush holds back what it lays out without what is below it
abbrev pub nobody_back : Backs
nobody_back look ask = false

abbrev pub outer_back : LayoutParts → Backs
outer_back P look None = false
outer_back P look (Some ask) = P.holds look ask

abbrev pub back_in : LayoutParts → Bool → Backs
back_in P true = outer_back P
back_in P false = nobody_back

-- only such nodes are held back
abbrev pub HoldsOnly : LayoutParts → Backs → Type 0
HoldsOnly P back = (look : Look) (ask : Ask) → back look (Some ask) ≡ true → P.holds look ask ≡ true
