-- What happens to one pointer, from when it goes down until it goes up or is cancelled.
use Rattle.std.specs.Prelude.{ℕ, Bool, true, false, List, [], ◌∷◌, ◌++◌, ◌==◌, ◌&&◌}
use Rattle.std.specs.List.{list_any}
use Rattle.fx_geom.specs.declared.shapes.Offset.{Offset}
use Rattle.gesture_arena.specs.declared.gesture.Gesture.{Gesture}
use Rattle.gesture_arena.specs.declared.gesture.Gesture.TheVariants.{Tap, Long, Vertical, Horizontal, Pan}
use Rattle.gesture_arena.specs.declared.gesture.Member.{Member}

-- A moment: the pointer goes down, moves to a point, goes up, is cancelled; its deadline comes, 500 ms after it went down; or
-- a frame leaves no detector's handler for some members.
pub data Moment : Type 0 where
  down : Moment
  move : Offset → Moment
  up : Moment
  cancel : Moment
  due : Moment
  dropped : List Member → Moment

-- What is settled of a pointer when it goes down: its number, where and when, and its members in order.
pub record Touch : Type 0 where
  pub number : ℕ
  pub from : Offset
  pub began : ℕ
  pub members : List Member

-- A pointer that is down, with all that has happened to it, in order.
pub record Pointer : Type 0 where
  pub touch : Touch
  pub moments : List Moment

-- A moment and all those before it.
pub record Turn : Type 0 where
  pub past : List Moment
  pub moment : Moment

-- the moments up to a turn's own one
abbrev pub seen : Turn → List Moment
seen t = t.past ++ t.moment ∷ []

-- the turns of a list of moments, in order
abbrev pub turns_after : List Moment → List Moment → List Turn
turns_after past [] = []
turns_after past (x ∷ xs) = (record { past = past; moment = x }) ∷ turns_after (past ++ x ∷ []) xs

abbrev pub turns : List Moment → List Turn
turns moments = turns_after [] moments

abbrev pub is_up : Moment → Bool
is_up down = false
is_up (move at) = false
is_up up = true
is_up cancel = false
is_up due = false
is_up (dropped gone) = false

abbrev pub is_due : Moment → Bool
is_due down = false
is_due (move at) = false
is_due up = false
is_due cancel = false
is_due due = true
is_due (dropped gone) = false

-- whether two gestures or members are the same
abbrev pub gesture_eq : Gesture → Gesture → Bool
gesture_eq Tap Tap = true
gesture_eq Long Long = true
gesture_eq Vertical Vertical = true
gesture_eq Horizontal Horizontal = true
gesture_eq Pan Pan = true
gesture_eq _ _ = false

abbrev pub member_eq : Member → Member → Bool
member_eq a b = (a.node == b.node) && gesture_eq a.gesture b.gesture

abbrev pub is_among : List Member → Member → Bool
is_among members m = list_any (member_eq m) members

-- whether a moment drops a member
abbrev pub drops : Moment → Member → Bool
drops down m = false
drops (move at) m = false
drops up m = false
drops cancel m = false
drops due m = false
drops (dropped gone) m = is_among gone m

-- whether a member was dropped at one of the moments
abbrev pub was_dropped : Member → List Moment → Bool
was_dropped m moments = list_any (λ x. drops x m) moments

-- whether the deadline came at one of the moments
abbrev pub has_come_due : List Moment → Bool
has_come_due moments = list_any is_due moments

-- where the pointer is after the moments: where it last moved to, else where it was before them
abbrev pub point_after : Offset → List Moment → Offset
point_after at [] = at
point_after at (move to ∷ xs) = point_after to xs
point_after at (_ ∷ xs) = point_after at xs
