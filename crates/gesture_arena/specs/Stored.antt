-- What the code stores of a pointer in place of its moments, and how a moment changes that.
use Rattle.std.specs.Prelude.{◌≡◌, ℕ, ◌+◌, ◌==◌, nat_le, Bool, false, ◌&&◌, ◌||◌, not, List, [], ◌∷◌, ◌++◌, map, Option, Some, None, if◌then◌else◌}
use Rattle.std.specs.List.{list_any, filter}
use Rattle.std.specs.Option.{option_to_list}
use Rattle.fx_geom.specs.declared.shapes.Offset.{Offset}
use Rattle.fx_geom.specs.declared.scales.Scale.{Scale}
use Rattle.gesture_arena.specs.declared.answers.Answers.{Answers}
use Rattle.gesture_arena.specs.declared.gesture.Member.{Member}
use Rattle.gesture_arena.specs.declared.gesture.ArenaEvent.{ArenaEvent}
use Rattle.gesture_arena.specs.declared.gesture.ArenaEvent.TheVariants as event
use Rattle.gesture_arena.specs.declared.moment.Decision.TheVariants.{Waits}
use Rattle.gesture_arena.specs.declared.moment.Happening.{Happening}
use Rattle.gesture_arena.specs.declared.moment.Happening.TheVariants as happening
use Rattle.gesture_arena.specs.declared.place.PointerPlace.{PointerPlace}
use Rattle.gesture_arena.specs.declared.tracked.Tracked.{Tracked}
use Rattle.gesture_arena.specs.declared.tracked.ArenaState.{ArenaState}
use Rattle.gesture_arena.specs.declared.tracked.ArenaState.TheVariants.{Open, Won, Nobody}
use Rattle.gesture_arena.specs.declared.tracked.Met.{Met}
use Rattle.gesture_arena.specs.declared.held.HeldPointer.{HeldPointer}
use Rattle.gesture_arena.specs.Moment.{Moment, down, move, up, cancel, due, dropped, Touch, Pointer, drops, is_among, is_up, is_due, was_dropped, has_come_due, point_after}
use Rattle.gesture_arena.specs.Pointers.{GivenMoments, one_gets, comes_due, loses}
use Rattle.gesture_arena.specs.declared.call.Call.{Call}
use Rattle.gesture_arena.specs.declared.call.Call.TheVariants as call
use Rattle.gesture_arena.specs.Own.{says, own_decision}
use Rattle.gesture_arena.specs.Answering.{answered}
use Rattle.gesture_arena.specs.Settled.{member_in, decision_after, is_alive, open_after, is_open}
use Rattle.gesture_arena.specs.Winner.{winner_of}
use Rattle.gesture_arena.specs.Effects.{acts}

-- the point of a place, and the moment of what happens
abbrev pub offset_of : PointerPlace → Offset
offset_of at = record { x = at.x; y = at.y }

abbrev pub moment_of : Happening → Moment
moment_of happening.Down = down
moment_of (happening.Move at) = move (offset_of at)
moment_of happening.Up = up
moment_of happening.Cancel = cancel
moment_of happening.Due = due
moment_of (happening.Dropped gone) = dropped gone.members.now

-- a stored member with one moment more
abbrev pub stepped : Scale → Offset → Moment → Tracked → Tracked
stepped s from x t = record {
  node = t.node;
  gesture = t.gesture;
  decision = decision_after t.decision (says s from (member_in t) x);
  dropped = t.dropped || drops x (member_in t);
}

-- a stored member that is given what its gesture has decided, and then one moment more
abbrev pub given_stepped : Answers → Scale → Offset → Moment → Tracked → Tracked
given_stepped a s from x t = stepped s from x (answered a t)

-- an arena with one moment more, where the members have that moment
abbrev pub arena_after : Scale → Offset → Moment → Bool → List Tracked → ArenaState → ArenaState
arena_after s from x goes_up members Open = open_after members goes_up
arena_after s from x goes_up members (Won t) = Won (stepped s from x t)
arena_after s from x goes_up members Nobody = Nobody

-- what is told of the arena where this decides it
abbrev pub arena_told : ℕ → ArenaState → Option ArenaEvent
arena_told number Open = None
arena_told number (Won t) = Some (event.Won number t.node t.gesture)
arena_told number Nobody = Some (event.Nobody number)

-- what is told of an arena with these members that was the first and is the second
abbrev pub decided_in : ℕ → List Tracked → ArenaState → ArenaState → Option ArenaEvent
decided_in number [] before after = None
decided_in number (_ ∷ _) before after = if is_open before then arena_told number after else None

-- what the winner does
abbrev pub effect_in : Bool → ArenaState → Offset → Moment → Option ArenaEvent
effect_in is_new (Won t) at x = if t.dropped then None else acts t.gesture (is_alive t) is_new (member_in t) at x
effect_in is_new Open at x = None
effect_in is_new Nobody at x = None

-- the members that are stored, each given what its gesture has decided
abbrev pub members_now : HeldPointer → List Tracked
members_now h = map (answered h.answers) h.members.items

-- what is stored of a pointer before a moment and after it
pub record StepsTo (s : Scale) (x : Moment) (old new : HeldPointer) : Type 0 where
  pub number : new.number ≡ old.number
  pub from : new.from ≡ old.from
  pub last : offset_of new.last ≡ point_after (offset_of old.last) (x ∷ [])
  pub began : new.began ≡ old.began
  pub is_due : new.is_due ≡ (old.is_due || is_due x)
  pub members : members_now new ≡ map (stepped s (offset_of old.from) x) (members_now old)
  pub arena : new.arena ≡ arena_after s (offset_of old.from) x (is_up x) (members_now new) old.arena

-- the events of a moment: the decision first
abbrev pub listed : Met → List ArenaEvent
listed m = option_to_list m.decided ++ option_to_list m.effect

-- what is stored of a member after these moments
abbrev pub tracked_of : Scale → Touch → List Moment → Member → Tracked
tracked_of s p moments m = record { node = m.node; gesture = m.gesture; decision = own_decision s p.from m moments; dropped = was_dropped m moments }

-- what is stored of an arena after these moments, in which the winner is this
abbrev pub arena_of : Scale → Touch → List Moment → Option (Option Member) → ArenaState
arena_of s p moments None = Open
arena_of s p moments (Some None) = Nobody
arena_of s p moments (Some (Some m)) = Won (tracked_of s p moments m)

-- What is stored stands for a pointer with its moments.
pub record Stands (s : Scale) (h : HeldPointer) (p : Pointer) : Type 0 where
  pub number : h.number ≡ p.touch.number
  pub from : offset_of h.from ≡ p.touch.from
  pub last : offset_of h.last ≡ point_after p.touch.from p.moments
  pub began : h.began ≡ p.touch.began
  pub is_due : h.is_due ≡ has_come_due p.moments
  pub members : members_now h ≡ map (tracked_of s p.touch p.moments) p.touch.members
  pub arena : h.arena ≡ arena_of s p.touch p.moments (winner_of s p.touch p.moments)

-- whether one of the stored members is gone
abbrev pub has_lost : List Member → List Tracked → Bool
has_lost gone members = list_any (λ t. is_among gone (member_in t)) members

abbrev pub number_is : ℕ → HeldPointer → Bool
number_is number h = h.number == number

-- the stored pointers but for the one with this number
abbrev pub others : ℕ → List HeldPointer → List HeldPointer
others number hs = filter (λ h. not (h.number == number)) hs

-- a member to which nothing has happened
abbrev pub fresh : Member → Tracked
fresh m = record { node = m.node; gesture = m.gesture; decision = Waits; dropped = false }

-- the moment that a call gives a stored pointer, and the pointer that it stands for
abbrev pub given_in : Call → HeldPointer → Option Moment
given_in (call.Moved number at) h = if h.number == number then Some (move (offset_of at)) else None
given_in (call.Up number) h = if h.number == number then Some up else None
given_in (call.Cancel number) h = if h.number == number then Some cancel else None
given_in (call.Advance now) h = if not h.is_due && nat_le (h.began + 500) now then Some due else None
given_in (call.Dropped gone) h = if has_lost gone.members.now h.members.items then Some (dropped gone.members.now) else None

abbrev pub given_by : Call → GivenMoments
given_by (call.Moved number at) = one_gets number (move (offset_of at))
given_by (call.Up number) = one_gets number up
given_by (call.Cancel number) = one_gets number cancel
given_by (call.Advance now) = comes_due now
given_by (call.Dropped gone) = loses gone.members.now

-- each stored pointer stands for the one at its place
abbrev pub AllStand : Scale → List HeldPointer → List Pointer → Type 0
AllStand s [] [] = Unit {0}
AllStand s [] (_ ∷ _) = ⊥
AllStand s (_ ∷ _) [] = ⊥
AllStand s (h ∷ hs) (p ∷ ps) = Stands s h p × AllStand s hs ps
