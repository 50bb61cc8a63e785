-- The moments of several pointers in any order, and those of one of them.
use Rattle.std.specs.Prelude.{◌≡◌, ℕ, ◌+◌, ◌≤◌, ◌==◌, List, [], ◌∷◌, ◌++◌, is_some, if◌then◌else◌}
use Rattle.std.specs.List.{filter}
use Rattle.fx_geom.specs.declared.scales.Scale.{Scale}
use Rattle.gesture_arena.specs.declared.gesture.ArenaEvent.{ArenaEvent}
use Rattle.gesture_arena.specs.Moment.{Moment, Pointer}
use Rattle.gesture_arena.specs.Effects.{effects_of}
use Rattle.gesture_arena.specs.Pointers.{one_gets, is_numbered, after, events_of, comes_due}

-- Something happens to the pointer with a number.
pub record Happens : Type 0 where
  pub number : ℕ
  pub moment : Moment

-- what happens to one pointer, in order
abbrev pub own_moments : ℕ → List Happens → List Moment
own_moments number [] = []
own_moments number (h ∷ hs) = if h.number == number then h.moment ∷ own_moments number hs else own_moments number hs

-- what comes of what happens to one pointer, where all that happens to several goes on among them
abbrev pub own_events : Scale → ℕ → List Happens → List Pointer → List ArenaEvent
own_events s number [] ps = []
own_events s number (h ∷ hs) ps =
    (if h.number == number then events_of s (one_gets h.number h.moment) ps else [])
    ++ own_events s number hs (after (one_gets h.number h.moment) ps)

-- p is the only one of the pointers that has its number
abbrev pub IsOnly : Pointer → List Pointer → Type 0
IsOnly p ps = filter (is_numbered p.touch.number) ps ≡ p ∷ []

-- Whatever happens to the others and in which order, all that comes of a pointer is what comes of its own moments.
abbrev pub IsAlone : Scale → List Pointer → Pointer → List Happens → Type 0
IsAlone s ps p hs =
    effects_of s p.touch p.moments ++ own_events s p.touch.number hs ps ≡ effects_of s p.touch (p.moments ++ own_moments p.touch.number hs)

-- each number is at most all later ones
abbrev pub IsAtMostAll : ℕ → List ℕ → Type 0
IsAtMostAll n [] = Unit {0}
IsAtMostAll n (m ∷ ms) = (n ≤ m) × IsAtMostAll n ms

abbrev pub AreInOrder : List ℕ → Type 0
AreInOrder [] = Unit {0}
AreInOrder (n ∷ ns) = IsAtMostAll n ns × AreInOrder ns

-- when a pointer went down, and when its deadline comes
abbrev pub down_time : Pointer → ℕ
down_time p = p.touch.began

abbrev pub deadline_of : Pointer → ℕ
deadline_of p = p.touch.began + 500

-- the pointers whose deadline comes at a time, in the order in which their events stand
abbrev pub due_at : ℕ → List Pointer → List Pointer
due_at now ps = filter (λ p. is_some (comes_due now p)) ps
