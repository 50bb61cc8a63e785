-- Who can have the focus, said by a node, its place and what stands above it.
use Rattle.std.specs.Prelude.{◌≡◌, ℕ, false, Option, Some, None, List, [], ◌∷◌, Contains}
use Rattle.std.specs.List.{All}
use Rattle.fx_expr.specs.declared.handlers.Handler.{Handler}
use Rattle.fx_geom.specs.Offset.{offset_sum, origin}
use Rattle.fx_geom.specs.declared.shapes.Offset.{Offset}
use Rattle.gesture_arena.specs.declared.gesture.Gesture.TheVariants as gesture
use Rattle.layout_form.specs.Object.{stood_in}
use Rattle.plain_tree.specs.At.{numbers_of}
use Rattle.plain_tree.specs.Laid.{Laid, laid, Stood}
use Rattle.plain_tree.specs.PlainNode.{PlainNode}
use Rattle.plain_tree.specs.Shown.{is_unseen}
use Rattle.screen_form.specs.Hidden.{hides_below}
use Rattle.screen_form.specs.Members.{handler_in}
use Rattle.screen_form.specs.declared.spot.Spot.{Spot}
use Rattle.session_form.specs.State.{Shown}

-- ---- a way down a laid tree

-- each of these is a laid child of the one before it, the first one of the node where the way begins
abbrev pub IsWay : Laid → List Stood → Type 0
IsWay l [] = Unit {0}
IsWay l (c ∷ cs) = Contains (stood_in l) c × IsWay c.child cs

-- the node to which a way leads
abbrev pub end_of : Laid → List Stood → Laid
end_of l [] = l
end_of l (c ∷ cs) = end_of c.child cs

-- where it stands, if the way begins at a point
abbrev pub place_of : Offset → List Stood → Offset
place_of at [] = at
place_of at (c ∷ cs) = place_of (offset_sum at c.at) cs

-- the nodes that stand above it, from where the way begins
abbrev pub above : Laid → List Stood → List Laid
above l [] = []
above l (c ∷ cs) = l ∷ above c.child cs

-- ---- what a node is

abbrev pub laid_number : Laid → ℕ
laid_number (laid number look facts children) = number

-- a Detector with a tap
abbrev pub CanBeTapped : Laid → Type 0
CanBeTapped (laid number look facts children) = (h : Handler) × (handler_in look gesture.Tap ≡ Some h)

-- it is no sliver of which nothing is seen, no Opacity of alpha 0 and no Offstage that is offstage
abbrev pub HidesNothing : Laid → Type 0
HidesNothing (laid number look facts children) = (is_unseen facts.frame ≡ false) × (hides_below look facts.frame ≡ false)

-- a node of a laid tree that begins at a point can have the focus there, by its number and place: a Detector with a tap, which
-- neither it nor a node above it hides
pub record CanHaveFocus (root : Laid) (from : Offset) (spot : Spot) : Type 0 where
  pub way : List Stood
  pub leads : IsWay root way
  pub number : laid_number (end_of root way) ≡ spot.number
  pub place : place_of from way ≡ record { x = spot.x; y = spot.y }
  pub tapped : CanBeTapped (end_of root way)
  pub seen : HidesNothing (end_of root way)
  pub seen_above : All HidesNothing (above root way)

-- the node of a laid tree with a number can have it
abbrev pub CanTakeFocus : Laid → ℕ → Type 0
CanTakeFocus root number = (spot : Spot) × (spot.number ≡ number) × CanHaveFocus root origin spot

-- ---- a node of a tree

abbrev pub IsThere : Option PlainNode → ℕ → Type 0
IsThere None number = ⊥
IsThere (Some tree) number = Contains (numbers_of tree) number

-- the node with a number of what is shown can have the focus
abbrev pub CanTakeFocusIn : Option Shown → ℕ → Type 0
CanTakeFocusIn None number = ⊥
CanTakeFocusIn (Some shown) number = CanTakeFocus shown.laid number
