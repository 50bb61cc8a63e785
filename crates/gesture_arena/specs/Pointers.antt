-- The pointers that are down, in order of down, and what each call does to them.
use Rattle.std.specs.Prelude.{ℕ, ◌+◌, Bool, not, ◌&&◌, ◌==◌, nat_le, List, [], ◌∷◌, ◌++◌, map, Option, Some, None, if◌then◌else◌, ◌^◌, ◌≤ℤ◌, pos, neg_ℤ}
use Rattle.std.specs.List.{filter, list_any}
use Rattle.fx_geom.specs.declared.shapes.Offset.{Offset}
use Rattle.fx_geom.specs.declared.scales.Scale.{Scale}
use Rattle.gesture_arena.specs.declared.gesture.Member.{Member}
use Rattle.gesture_arena.specs.declared.gesture.ArenaEvent.{ArenaEvent}
use Rattle.gesture_arena.specs.Moment.{Moment, down, due, dropped, Pointer, Turn, is_among, has_come_due}
use Rattle.gesture_arena.specs.Effects.{events_at}

-- a pointer with one moment more
abbrev pub with_moment : Pointer → Moment → Pointer
with_moment p x = record { touch = p.touch; moments = p.moments ++ x ∷ [] }

-- the turn of one moment more
abbrev pub turn_of : Pointer → Moment → Turn
turn_of p x = record { past = p.moments; moment = x }

-- A call gives each pointer a moment, or none.
abbrev pub GivenMoments : Type 0
GivenMoments = Pointer → Option Moment

abbrev pub is_numbered : ℕ → Pointer → Bool
is_numbered number p = p.touch.number == number

-- the pointer with this number gets the moment
abbrev pub one_gets : ℕ → Moment → GivenMoments
one_gets number x p = if is_numbered number p then Some x else None

-- the deadline comes once for each pointer, 500 ms after it went down
abbrev pub comes_due : ℕ → GivenMoments
comes_due now p = if not (has_come_due p.moments) && nat_le (p.touch.began + 500) now then Some due else None

-- each pointer with a member that is gone gets a drop
abbrev pub loses : List Member → GivenMoments
loses gone p = if list_any (is_among gone) p.touch.members then Some (dropped gone) else None

-- the pointers after a call
abbrev pub met : Option Moment → Pointer → Pointer
met None p = p
met (Some x) p = with_moment p x

abbrev pub after : GivenMoments → List Pointer → List Pointer
after given ps = map (λ p. met (given p) p) ps

-- the events of a call: of each pointer those of its moment, in order of down
abbrev pub events_met : Scale → Pointer → Option Moment → List ArenaEvent
events_met s p None = []
events_met s p (Some x) = events_at s p.touch (turn_of p x)

abbrev pub events_of : Scale → GivenMoments → List Pointer → List ArenaEvent
events_of s given [] = []
events_of s given (p ∷ ps) = events_met s p (given p) ++ events_of s given ps

-- the pointers but for the one with this number, which is no longer down
abbrev pub without : ℕ → List Pointer → List Pointer
without number ps = filter (λ p. not (is_numbered number p)) ps

abbrev pub is_down : ℕ → List Pointer → Bool
is_down number ps = list_any (is_numbered number) ps

-- a pointer that nothing has happened to yet, and one that has just gone down
abbrev pub touched : ℕ → Offset → ℕ → List Member → Pointer
touched number at now members = record { touch = record { number = number; from = at; began = now; members = members }; moments = [] }

abbrev pub put_down : ℕ → Offset → ℕ → List Member → Pointer
put_down number at now members = with_moment (touched number at now members) down

-- the events of a pointer's going down
abbrev pub down_events : Scale → ℕ → Offset → ℕ → List Member → List ArenaEvent
down_events s number at now members = events_met s (touched number at now members) (Some down)

-- the members of all pointers, one pointer after another
abbrev pub members_of : List Pointer → List Member
members_of [] = []
members_of (p ∷ ps) = p.touch.members ++ members_of ps

-- a point within the range that pointers have
abbrev pub IsInRange : Offset → Type 0
IsInRange at = (neg_ℤ (pos (2 ^ 30)) ≤ℤ at.x) × (at.x ≤ℤ pos (2 ^ 30)) × (neg_ℤ (pos (2 ^ 30)) ≤ℤ at.y) × (at.y ≤ℤ pos (2 ^ 30))
