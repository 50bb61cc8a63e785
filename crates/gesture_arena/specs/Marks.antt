-- Marks on members, and which members they say to be gone.
use Rattle.std.specs.Prelude.{◌≡◌, ℕ, ◌==◌, Bool, true, false, ◌&&◌, is_some, List, All, Option, option_map, cond, Some}
use Rattle.std.specs.HashMap.{HashMap, get}
use Rattle.gesture_arena.specs.declared.gesture.Gesture.{Gesture}
use Rattle.gesture_arena.specs.declared.gesture.Gesture.TheVariants.{Tap, Long, Vertical, Horizontal, Pan}
use Rattle.gesture_arena.specs.declared.gesture.Member.{Member}
use Rattle.gesture_arena.specs.declared.marks.NodeMarks.{NodeMarks}
use Rattle.gesture_arena.specs.declared.tracked.Tracked.{Tracked}
use Rattle.gesture_arena.specs.Moment.{member_eq, is_among}
use Rattle.gesture_arena.specs.Settled.{member_in}

-- the mark of a node's member with a gesture
abbrev pub mark_in : NodeMarks → Gesture → Bool
mark_in n Tap = n.tap
mark_in n Long = n.long
mark_in n Vertical = n.vertical
mark_in n Horizontal = n.horizontal
mark_in n Pan = n.pan

-- a node's marks with one put on its member with a gesture
abbrev pub with_mark : NodeMarks → Gesture → Bool → NodeMarks
with_mark n Tap mark = record n { tap = mark }
with_mark n Long mark = record n { long = mark }
with_mark n Vertical mark = record n { vertical = mark }
with_mark n Horizontal mark = record n { horizontal = mark }
with_mark n Pan mark = record n { pan = mark }

module _ {S : Type 0} where
  -- a member's mark, where its node has a place
  abbrev pub mark_of : HashMap ℕ NodeMarks S → Member → Option Bool
  mark_of marks m = option_map (λ n. mark_in n m.gesture) (get (λ a b. a == b) marks m.node)

  -- each member that has a place is marked exactly where it is among these
  abbrev pub AreMarked : List Member → HashMap ℕ NodeMarks S → Type 0
  AreMarked gone marks = (m : Member) (b : Bool) → mark_of marks m ≡ Some b → b ≡ is_among gone m

  -- no member is marked
  abbrev pub NoneIsMarked : HashMap ℕ NodeMarks S → Type 0
  NoneIsMarked marks = (m : Member) (b : Bool) → mark_of marks m ≡ Some b → b ≡ false

  -- each of these members has a place
  abbrev pub HavePlaces : List Tracked → HashMap ℕ NodeMarks S → Type 0
  HavePlaces members marks = All (λ t. is_some (mark_of marks (member_in t)) ≡ true) members

-- the marks after this one is put on a member that has a place
abbrev pub marked : (Member → Option Bool) → Member → Bool → Member → Option Bool
marked marks member mark m = cond (member_eq member m && is_some (marks m)) (Some mark) (marks m)
