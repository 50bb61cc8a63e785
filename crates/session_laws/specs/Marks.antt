-- What a command that is done marks and touches.
use Rattle.std.specs.Prelude.{ℕ, ◌==◌, Option, Some, None, List, [], ◌∷◌, ◌++◌, if◌then◌else◌}
use Rattle.std.specs.Result.{result_ok}
use Rattle.fx_expr.specs.declared.handlers.Handler.{Handler}
use Rattle.gesture_arena.specs.declared.gesture.ArenaEvent.{ArenaEvent}
use Rattle.gesture_arena.specs.declared.gesture.ArenaEvent.TheVariants as event
use Rattle.gesture_arena.specs.declared.gesture.Gesture.TheVariants as gesture
use Rattle.gesture_arena.specs.Moment.{move, up, cancel}
use Rattle.gesture_arena.specs.Pointers.{one_gets, comes_due, down_events}
use Rattle.plain_tree.specs.PlainNode.{PlainNode}
use Rattle.screen_form.specs.Acts.{acted}
use Rattle.screen_form.specs.Sem.{Sem}
use Rattle.script_lines.specs.declared.command.Action.{Action}
use Rattle.script_lines.specs.declared.command.Command.{Command}
use Rattle.script_lines.specs.declared.command.Command.TheVariants as command
use Rattle.session_form.specs.Gestures.{events_given, members_at, event_by}
use Rattle.session_form.specs.Handlers.{handler_at}
use Rattle.session_form.specs.Program.{scale_of}
use Rattle.session_form.specs.Seeing.{point, semantics_in}
use Rattle.session_form.specs.State.{SessionState, Touched, delegate, viewport}

-- ---- the events of a command

-- the event of a semantics action, where it is done
abbrev pub action_by : Action → Option ℕ → List ArenaEvent
action_by what None = []
action_by what (Some detector) = event_by what detector ∷ []

abbrev pub action_in : Option Sem → ℕ → Action → List ArenaEvent
action_in None node what = []
action_in (Some root) node what = action_by what (result_ok (acted root node what))

-- those that a command brings when it is done: of time, of its pointer and of its action. A frame drops members, which runs no
-- handler.
abbrev pub events_by : SessionState → Command → List ArenaEvent
events_by s command.Frame = []
events_by s (command.At time) = events_given (comes_due time) s
events_by s (command.Set node field value) = []
events_by s (command.Root json) = []
events_by s (command.Resize w h) = []
events_by s (command.Scroll node by) = []
events_by s (command.Down pointer x y) = down_events (scale_of s.program) pointer (point x y) s.time (members_at s.shown (point x y))
events_by s (command.Move pointer x y) = events_given (one_gets pointer (move (point x y))) s
events_by s (command.Up pointer) = events_given (one_gets pointer up) s
events_by s (command.Cancel pointer) = events_given (one_gets pointer cancel) s
events_by s (command.Hit x y) = []
events_by s command.Semantics = []
events_by s (command.Act node action) = action_in (semantics_in s.shown) node action
events_by s (command.Delegate name field n) = []
events_by s (command.Unplug name) = []
events_by s command.States = []

-- ---- the nodes that handlers mark

-- the owner of a handler that is run; outside components a handler has owner 0, and marks nothing
abbrev pub owner_of : Option Handler → List ℕ
owner_of None = []
owner_of (Some h) = if h.owner == 0 then [] else h.owner ∷ []

-- a tap, a long press and each update of a drag run the handler of the last frame's detector
abbrev pub marked_by : Option PlainNode → ArenaEvent → List ℕ
marked_by tree (event.Won pointer node g) = []
marked_by tree (event.Nobody pointer) = []
marked_by tree (event.Tap node) = owner_of (handler_at tree node gesture.Tap)
marked_by tree (event.Long node) = owner_of (handler_at tree node gesture.Long)
marked_by tree (event.Start node g) = []
marked_by tree (event.Update node g dx dy) = owner_of (handler_at tree node g)
marked_by tree (event.End node g) = []

abbrev pub all_marked_by : Option PlainNode → List ArenaEvent → List ℕ
all_marked_by tree [] = []
all_marked_by tree (e ∷ es) = marked_by tree e ++ all_marked_by tree es

-- ---- what is marked and touched after a command that is done

-- `set #n` marks its node; a frame takes all marks away
abbrev pub marks_after : SessionState → Command → List ℕ
marks_after s command.Frame = []
marks_after s (command.At time) = s.marks ++ all_marked_by s.tree (events_by s (command.At time))
marks_after s (command.Set node field value) = s.marks ++ node ∷ []
marks_after s (command.Root json) = s.marks
marks_after s (command.Resize w h) = s.marks
marks_after s (command.Scroll node by) = s.marks
marks_after s (command.Down pointer x y) = s.marks ++ all_marked_by s.tree (events_by s (command.Down pointer x y))
marks_after s (command.Move pointer x y) = s.marks ++ all_marked_by s.tree (events_by s (command.Move pointer x y))
marks_after s (command.Up pointer) = s.marks ++ all_marked_by s.tree (events_by s (command.Up pointer))
marks_after s (command.Cancel pointer) = s.marks ++ all_marked_by s.tree (events_by s (command.Cancel pointer))
marks_after s (command.Hit x y) = s.marks
marks_after s command.Semantics = s.marks
marks_after s (command.Act node action) = s.marks ++ all_marked_by s.tree (events_by s (command.Act node action))
marks_after s (command.Delegate name field n) = s.marks
marks_after s (command.Unplug name) = s.marks
marks_after s command.States = s.marks

-- `scroll`, `delegate` and `unplug` touch what they name; a frame takes all of it away
abbrev pub touched_after : SessionState → Command → List Touched
touched_after s command.Frame = []
touched_after s (command.At time) = s.touched
touched_after s (command.Set node field value) = s.touched
touched_after s (command.Root json) = s.touched
touched_after s (command.Resize w h) = s.touched
touched_after s (command.Scroll node by) = s.touched ++ viewport node ∷ []
touched_after s (command.Down pointer x y) = s.touched
touched_after s (command.Move pointer x y) = s.touched
touched_after s (command.Up pointer) = s.touched
touched_after s (command.Cancel pointer) = s.touched
touched_after s (command.Hit x y) = s.touched
touched_after s command.Semantics = s.touched
touched_after s (command.Act node action) = s.touched
touched_after s (command.Delegate name field n) = s.touched ++ delegate name ∷ []
touched_after s (command.Unplug name) = s.touched ++ delegate name ∷ []
touched_after s command.States = s.touched
