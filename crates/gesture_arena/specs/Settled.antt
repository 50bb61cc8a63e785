-- What stored members have decided, and what an open arena of them comes to.
use Rattle.std.specs.Prelude.{nat_le, Bool, true, false, ◌||◌, List, count_by, Option, Some, None, if◌then◌else◌}
use Rattle.std.specs.List.{list_any, find}
use Rattle.std.specs.Option.{option_or}
use Rattle.gesture_arena.specs.declared.gesture.Member.{Member}
use Rattle.gesture_arena.specs.declared.moment.Decision.{Decision}
use Rattle.gesture_arena.specs.declared.moment.Decision.TheVariants.{Waits, Rejects, Accepts}
use Rattle.gesture_arena.specs.declared.tracked.Tracked.{Tracked}
use Rattle.gesture_arena.specs.declared.tracked.ArenaState.{ArenaState}
use Rattle.gesture_arena.specs.declared.tracked.ArenaState.TheVariants.{Open, Won, Nobody}
use Rattle.gesture_arena.specs.Own.{lives, accepts}

-- a decision is final, else it is that of the next moment
abbrev pub decision_after : Decision → Decision → Decision
decision_after Waits d = d
decision_after Rejects d = Rejects
decision_after Accepts d = Accepts

-- a stored member, as the member that it is
abbrev pub member_in : Tracked → Member
member_in t = record { node = t.node; gesture = t.gesture }

abbrev pub has_accepted : Tracked → Bool
has_accepted t = accepts t.decision

abbrev pub is_alive : Tracked → Bool
is_alive t = lives t.decision

abbrev pub arena_won : Option Tracked → ArenaState
arena_won None = Nobody
arena_won (Some t) = Won t

-- what an open arena comes to, with its members after the moment
abbrev pub settled : List Tracked → Bool → Bool
settled members goes_up = list_any has_accepted members || nat_le (count_by is_alive members) 1 || goes_up

abbrev pub first_of : List Tracked → Option Tracked
first_of members = option_or (find has_accepted members) (find is_alive members)

abbrev pub open_after : List Tracked → Bool → ArenaState
open_after members goes_up = if settled members goes_up then arena_won (first_of members) else Open

abbrev pub is_open : ArenaState → Bool
is_open Open = true
is_open (Won t) = false
is_open Nobody = false
