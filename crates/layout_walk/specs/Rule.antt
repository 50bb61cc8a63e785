-- What a walk needs to know of the rules of layout: who is asked in which bounds, in two rounds, and what is made of the answers.
-- It never looks into a rule.
use Rattle.std.specs.Prelude.{◌≡◌, ℕ, Bool, true, Option, Some, None, List, [], ◌∷◌, length}
use Rattle.fx_geom.specs.declared.boxes.Bounds.{Bounds}
use Rattle.fx_geom.specs.declared.shapes.Offset.{Offset}
use Rattle.fx_geom.specs.Bounds.{IsWithin}
use Rattle.sliver_layout.specs.declared.protocol.SliverBounds.{SliverBounds}
use Rattle.widget_model.specs.Look.{Look}
use Rattle.plain_tree.specs.declared.laid.Facts.{Facts}
use Rattle.plain_tree.specs.declared.laid.Frame.{Frame}
use Rattle.plain_tree.specs.declared.render.ParentData.{ParentData}
use Rattle.plain_tree.specs.Offsets.{rescrolled}
use Rattle.plain_tree.specs.Render.{Renders}
use Rattle.plain_tree.specs.RenderRole.{render_role_of}
use Rattle.plain_tree.specs.Shown.{box_size}
use Rattle.layout_form.specs.declared.asks.Ask.{Ask}
use Rattle.layout_form.specs.declared.asks.Ask.TheVariants.{AsBox, AsSliver}
use Rattle.layout_form.specs.Object.{frame_geometry}
use Rattle.layout_form.specs.Framed.{answers_of, last_asks}
use Rattle.layout_walk.specs.Node.{NodeMember, ask_in}

-- what a rule gives to a node, and the places of the children that have answered, in order
pub record RuleGift : Type 0 where
  pub facts : Facts
  pub places : List Offset

-- the rules, by a node's member and what it is asked: how much the child of an IntrinsicWidth or an IntrinsicHeight would like,
-- by the members of all that is below; who is asked first, by that and by what the children were told; who is asked then, by the
-- first answers, where a Viewport is scrolled so far; what is made of the first answers and of all answers; the frame, where the
-- ask alone gives it; whether the answers have no part in what the node asks and gives; which nodes an outer flush lays out
-- without what is below them; and which nodes give the same whatever is below them
pub record LayoutParts : Type 0 where
  pub liked : Look → Ask → Renders → ℕ
  pub first : NodeMember → Ask → ℕ → List ParentData → List (Option Ask)
  pub rest : NodeMember → ℕ → Ask → List ParentData → List (Option Frame) → List (Option Ask)
  pub makes : NodeMember → ℕ → Ask → List ParentData → List (Option Frame) → List (Option Frame) → RuleGift
  pub fixed : NodeMember → Ask → Option Frame
  pub blind : Look → Bool
  pub holds : Look → Ask → Bool
  pub lists : Look → Bool

-- how children that answer so are asked in the end, and what is made of it
unfoldable pub asks_by : LayoutParts → NodeMember → ℕ → Ask → ℕ → List ParentData → List (Ask → Frame) → List (Option Ask)
asks_by P m scroll ask liked ds gs =
    last_asks (P.first m ask liked ds) (P.rest m scroll ask ds (answers_of (P.first m ask liked ds) gs))

unfoldable pub made_by : LayoutParts → NodeMember → ℕ → Ask → ℕ → List ParentData → List (Ask → Frame) → RuleGift
made_by P m scroll ask liked ds gs =
    P.makes m scroll ask ds (answers_of (P.first m ask liked ds) gs) (answers_of (asks_by P m scroll ask liked ds gs) gs)

-- two lists of children answer the same, as they are asked
abbrev pub SameAnswer : Option Ask → (Ask → Frame) → (Ask → Frame) → Type 0
SameAnswer None g h = Unit {0}
SameAnswer (Some ask) g h = g ask ≡ h ask

abbrev pub ask_of : List (Option Ask) → Option Ask
ask_of [] = None
ask_of (ask ∷ asks) = ask

abbrev pub later : {A : Type 0} → List A → List A
later [] = []
later (x ∷ xs) = xs

abbrev pub AnswerAlike : List (Option Ask) → List (Ask → Frame) → List (Ask → Frame) → Type 0
AnswerAlike asks [] [] = Unit {0}
AnswerAlike asks [] (h ∷ hs) = ⊥
AnswerAlike asks (g ∷ gs) [] = ⊥
AnswerAlike asks (g ∷ gs) (h ∷ hs) = SameAnswer (ask_of asks) g h × AnswerAlike (later asks) gs hs

-- how far a sliver can be scrolled through doesn't depend on what is seen of it
abbrev pub IsSteady : (Ask → Frame) → Type 0
IsSteady g = (b v : SliverBounds) → b.axis ≡ v.axis → b.cross ≡ v.cross → (frame_geometry (g (AsSliver b))).scroll ≡ (frame_geometry (g (AsSliver v))).scroll

-- a child answers as a render node does: its frame holds what it was asked, and as a box it keeps to its bounds
pub record IsObject (g : Ask → Frame) : Type 0 where
  pub asked : (ask : Ask) → ask_in (g ask) ≡ ask
  pub within : (b : Bounds) → IsWithin b (box_size (g (AsBox b)))
  pub steady : IsSteady g

abbrev pub AreSteady : List (Ask → Frame) → Type 0
AreSteady [] = Unit {0}
AreSteady (g ∷ gs) = IsSteady g × AreSteady gs

abbrev pub AreObjects : List (Ask → Frame) → Type 0
AreObjects [] = Unit {0}
AreObjects (g ∷ gs) = IsObject g × AreObjects gs

-- where a node stands scrolled after its rule was run
abbrev pub scroll_after : Look → RuleGift → ℕ → ℕ
scroll_after look made scroll = rescrolled (render_role_of look) (Some made.facts.scrolled) scroll

-- what a walk needs of the rules
pub record Lawful (P : LayoutParts) : Type 0 where
  -- a frame holds what was asked
  pub asked : (m : NodeMember) (scroll : ℕ) (ask : Ask) (liked : ℕ) (ds : List ParentData) (gs : List (Ask → Frame))
      → ask_in (made_by P m scroll ask liked ds gs).facts.frame ≡ ask
  -- above render nodes a node answers as one
  pub object : (m : NodeMember) (scroll : ℕ) (liked : Ask → ℕ) (ds : List ParentData) (gs : List (Ask → Frame))
      → AreObjects gs → IsObject (λ ask. (made_by P m scroll ask (liked ask) ds gs).facts.frame)
  -- children that answer the same, as they are asked, are asked the same, and the same is made of it
  pub alike_asks : (m : NodeMember) (scroll : ℕ) (ask : Ask) (liked : ℕ) (ds : List ParentData) (gs hs : List (Ask → Frame))
      → AreSteady gs → AreSteady hs → AnswerAlike (asks_by P m scroll ask liked ds gs) gs hs
      → asks_by P m scroll ask liked ds gs ≡ asks_by P m scroll ask liked ds hs
  pub alike_made : (m : NodeMember) (scroll : ℕ) (ask : Ask) (liked : ℕ) (ds : List ParentData) (gs hs : List (Ask → Frame))
      → AreSteady gs → AreSteady hs → AnswerAlike (asks_by P m scroll ask liked ds gs) gs hs
      → made_by P m scroll ask liked ds gs ≡ made_by P m scroll ask liked ds hs
  pub fixed : (m : NodeMember) (scroll : ℕ) (ask : Ask) (liked : ℕ) (ds : List ParentData) (gs : List (Ask → Frame)) (frame : Frame)
      → AreObjects gs → P.fixed m ask ≡ Some frame → (made_by P m scroll ask liked ds gs).facts.frame ≡ frame
  pub blind_asks : (m : NodeMember) (scroll : ℕ) (ask : Ask) (liked : ℕ) (ds : List ParentData) (gs hs : List (Ask → Frame))
      → P.blind m.look ≡ true → length gs ≡ length hs → asks_by P m scroll ask liked ds gs ≡ asks_by P m scroll ask liked ds hs
  pub blind_made : (m : NodeMember) (scroll : ℕ) (ask : Ask) (liked : ℕ) (ds : List ParentData) (gs hs : List (Ask → Frame))
      → P.blind m.look ≡ true → length gs ≡ length hs → made_by P m scroll ask liked ds gs ≡ made_by P m scroll ask liked ds hs
  -- where a Viewport stands scrolled has no part in its frame, and a corrected offset stays
  pub frames_unscrolled : (m : NodeMember) (scroll other : ℕ) (ask : Ask) (liked : ℕ) (ds : List ParentData) (gs : List (Ask → Frame))
      → (made_by P m scroll ask liked ds gs).facts.frame ≡ (made_by P m other ask liked ds gs).facts.frame
  pub stays_asked : (m : NodeMember) (scroll : ℕ) (ask : Ask) (liked : ℕ) (ds : List ParentData) (gs : List (Ask → Frame))
      → asks_by P m (scroll_after m.look (made_by P m scroll ask liked ds gs) scroll) ask liked ds gs ≡ asks_by P m scroll ask liked ds gs
  pub stays_made : (m : NodeMember) (scroll : ℕ) (ask : Ask) (liked : ℕ) (ds : List ParentData) (gs : List (Ask → Frame))
      → made_by P m (scroll_after m.look (made_by P m scroll ask liked ds gs) scroll) ask liked ds gs ≡ made_by P m scroll ask liked ds gs
  -- what an outer flush lays out without what is below it has its frame by the ask alone, and isn't scrolled
  pub held : (m : NodeMember) (scroll : ℕ) (ask : Ask) (liked : ℕ) (ds : List ParentData) (gs : List (Ask → Frame))
      → P.holds m.look ask ≡ true → P.fixed m ask ≡ Some (made_by P m scroll ask liked ds gs).facts.frame
  -- what is below a list has no part in what is stored of it
  pub lists : (m : NodeMember) (scroll : ℕ) (ask : Ask) (liked likes : ℕ) (ds es : List ParentData) (gs hs : List (Ask → Frame))
      → P.lists m.look ≡ true → (made_by P m scroll ask liked ds gs).facts ≡ (made_by P m scroll ask likes es hs).facts
  pub holds_lists : (look : Look) (ask : Ask) → P.holds look ask ≡ true → P.lists look ≡ true
