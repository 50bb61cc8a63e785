-- Which member wins a pointer, and when that is decided (GestureArenaManager).
use Rattle.std.specs.Prelude.{ℕ, nat_le, Bool, ◌||◌, List, count_by, Option}
use Rattle.std.specs.List.{list_any, find}
use Rattle.std.specs.Option.{option_map, option_or}
use Rattle.fx_geom.specs.declared.scales.Scale.{Scale}
use Rattle.gesture_arena.specs.declared.gesture.Member.{Member}
use Rattle.gesture_arena.specs.Moment.{Moment, Touch, Turn, seen, turns, is_up}
use Rattle.gesture_arena.specs.Own.{own_decision, lives, accepts}

-- whether a member lives after these moments: it has not rejected
abbrev pub is_living : Scale → Touch → List Moment → Member → Bool
is_living s p moments m = lives (own_decision s p.from m moments)

-- whether a member has accepted by then
abbrev pub is_accepting : Scale → Touch → List Moment → Member → Bool
is_accepting s p moments m = accepts (own_decision s p.from m moments)

-- how many members live
abbrev pub living_count : Scale → Touch → List Moment → ℕ
living_count s p moments = count_by (is_living s p moments) p.members

-- Whether a turn is one that decides: a living member accepts, or at most one lives, or the pointer goes up.
abbrev pub is_deciding : Scale → Touch → Turn → Bool
is_deciding s p t =
    list_any (is_accepting s p (seen t)) p.members || nat_le (living_count s p (seen t)) 1 || is_up t.moment

-- who wins at a deciding turn: the first member in order that accepts, else the first that lives, else nobody
abbrev pub winner_at : Scale → Touch → Turn → Option Member
winner_at s p t = option_or (find (is_accepting s p (seen t)) p.members) (find (is_living s p (seen t)) p.members)

-- the deciding turn is the first that decides
abbrev pub deciding_turn : Scale → Touch → List Moment → Option Turn
deciding_turn s p moments = find (is_deciding s p) (turns moments)

-- the winner after these moments: none yet, or decided for a member or for nobody
abbrev pub winner_of : Scale → Touch → List Moment → Option (Option Member)
winner_of s p moments = option_map (winner_at s p) (deciding_turn s p moments)
