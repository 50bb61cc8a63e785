-- The lines of time, of pointers and of semantics actions.
use Rattle.std.specs.Prelude.{ℕ, nat_lt, nat_le, Option, Some, None, Result, Ok, Err, List, [], ◌∷◌, ◌++◌, length, if◌then◌else◌}
use Rattle.fx_geom.specs.declared.shapes.Offset.{Offset}
use Rattle.gesture_arena.specs.declared.gesture.ArenaEvent.{ArenaEvent}
use Rattle.gesture_arena.specs.declared.gesture.ArenaEvent.TheVariants as event
use Rattle.gesture_arena.specs.declared.gesture.Member.{Member}
use Rattle.gesture_arena.specs.Moment.{Pointer, move, up, cancel}
use Rattle.gesture_arena.specs.Pointers.{GivenMoments, one_gets, comes_due, after, events_of, without, is_down, put_down, down_events}
use Rattle.screen_form.specs.Members.{members_of}
use Rattle.script_lines.specs.declared.command.Action.{Action}
use Rattle.script_lines.specs.declared.command.Action.TheVariants as action
use Rattle.screen_form.specs.Acts.{acted}
use Rattle.screen_form.specs.Sem.{Sem}
use Rattle.screen_form.specs.declared.act_fault.ActFault.{ActFault}
use Rattle.screen_form.specs.declared.act_fault.ActFault.TheVariants as act_fault
use Rattle.session_form.specs.declared.refusal.Refusal.TheVariants.{TimeGoesBack, PointerIsDown, PointerIsUp, TooManyPointers, NoSemanticsNode, NoAction}
use Rattle.session_form.specs.EventText.{events_text}
use Rattle.session_form.specs.Handlers.{after_events}
use Rattle.session_form.specs.Outcome.{Outcome, done, refused}
use Rattle.session_form.specs.Program.{scale_of}
use Rattle.session_form.specs.Seeing.{semantics_in}
use Rattle.session_form.specs.State.{SessionState, Shown}

-- ---- what comes of events that happen while these pointers are left: each event is done and printed

abbrev pub happened : List ArenaEvent → List Pointer → SessionState → SessionState
happened events pointers s = after_events events (record s { pointers = pointers })

-- the events of a moment that pointers are given
abbrev pub events_given : GivenMoments → SessionState → List ArenaEvent
events_given given s = events_of (scale_of s.program) given s.pointers

-- pointers are given a moment, and go on
abbrev pub given_moment : GivenMoments → SessionState → SessionState
given_moment given s = happened (events_given given s) (after given s.pointers) s

-- ---- `at T`: the deadlines until then come first, and then the time is T

abbrev pub advanced : ℕ → SessionState → SessionState
advanced time s = record (given_moment (comes_due time) s) { time = time }

abbrev pub at_line : ℕ → SessionState → Outcome
at_line time s =
    if nat_lt time s.time then refused TimeGoesBack
    else done (advanced time s) (events_text (events_given (comes_due time) s))

-- ---- `down P X Y`: its members are those of the detectors that are hit

-- how many pointers may be down
abbrev pub pointer_limit : ℕ
pointer_limit = 32

-- before the first frame no detector is hit
abbrev pub members_at : Option Shown → Offset → List Member
members_at None at = []
members_at (Some shown) at = members_of shown.laid at

abbrev pub goes_down : ℕ → Offset → List Member → SessionState → Outcome
goes_down pointer at members s =
    let events = down_events (scale_of s.program) pointer at s.time members in
    done (happened events (s.pointers ++ put_down pointer at s.time members ∷ []) s) (events_text events)

abbrev pub down_line : ℕ → Offset → SessionState → Outcome
down_line pointer at s =
    if is_down pointer s.pointers then refused PointerIsDown
    else if nat_le pointer_limit (length s.pointers) then refused TooManyPointers
    else goes_down pointer at (members_at s.shown at) s

-- ---- `move P X Y`, `up P` and `cancel P`: a pointer that is down has one moment more; it goes on, or is no longer down

abbrev pub if_down : ℕ → SessionState → Outcome → Outcome
if_down pointer s outcome = if is_down pointer s.pointers then outcome else refused PointerIsUp

abbrev pub goes_on : GivenMoments → SessionState → Outcome
goes_on given s = done (given_moment given s) (events_text (events_given given s))

abbrev pub goes_away : ℕ → GivenMoments → SessionState → Outcome
goes_away pointer given s =
    done (happened (events_given given s) (without pointer s.pointers) s) (events_text (events_given given s))

abbrev pub move_line : ℕ → Offset → SessionState → Outcome
move_line pointer at s = if_down pointer s (goes_on (one_gets pointer (move at)) s)

abbrev pub up_line : ℕ → SessionState → Outcome
up_line pointer s = if_down pointer s (goes_away pointer (one_gets pointer up) s)

abbrev pub cancel_line : ℕ → SessionState → Outcome
cancel_line pointer s = if_down pointer s (goes_away pointer (one_gets pointer cancel) s)

-- ---- `act #n tap` and `act #n long`: it has the effect of the detector's tap or long press

abbrev pub event_by : Action → ℕ → ArenaEvent
event_by action.Tap detector = event.Tap detector
event_by action.Long detector = event.Long detector

abbrev pub act_by : Action → Result ℕ ActFault → SessionState → Outcome
act_by what (Err act_fault.NoSemanticsNode) s = refused NoSemanticsNode
act_by what (Err act_fault.NoAction) s = refused NoAction
act_by what (Ok detector) s =
    let events = event_by what detector ∷ [] in
    done (after_events events s) (events_text events)

abbrev pub act_in : Option Sem → ℕ → Action → SessionState → Outcome
act_in None node what s = refused NoSemanticsNode
act_in (Some root) node what s = act_by what (acted root node what) s

abbrev pub act_line : ℕ → Action → SessionState → Outcome
act_line node what s = act_in (semantics_in s.shown) node what s
