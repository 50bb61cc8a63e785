-- One command of a session: what it comes to.
use Rattle.std.specs.Prelude.{ℕ}
use Rattle.script_lines.specs.declared.command.Command.{Command}
use Rattle.script_lines.specs.declared.command.Command.TheVariants as command
use Rattle.session_form.specs.Changing.{set_line, scroll_line, root_line, resize_line, delegate_line, unplug_line}
use Rattle.session_form.specs.Framing.{frame_line}
use Rattle.session_form.specs.Gestures.{at_line, down_line, move_line, up_line, cancel_line, act_line}
use Rattle.session_form.specs.Outcome.{Outcome}
use Rattle.session_form.specs.Seeing.{point, hit_line, semantics_line, states_line}
use Rattle.session_form.specs.State.{SessionState}

abbrev pub step : SessionState → Command → Outcome
step s command.Frame = frame_line s
step s (command.At time) = at_line time s
step s (command.Set node field value) = set_line node field value s
step s (command.Root json) = root_line json s
step s (command.Resize w h) = resize_line w h s
step s (command.Scroll node by) = scroll_line node by s
step s (command.Down pointer x y) = down_line pointer (point x y) s
step s (command.Move pointer x y) = move_line pointer (point x y) s
step s (command.Up pointer) = up_line pointer s
step s (command.Cancel pointer) = cancel_line pointer s
step s (command.Hit x y) = hit_line (point x y) s
step s command.Semantics = semantics_line s
step s (command.Act node action) = act_line node action s
step s (command.Delegate name field n) = delegate_line name field n s
step s (command.Unplug name) = unplug_line name s
step s command.States = states_line s

-- how many frames a command may add
abbrev pub frames_of : Command → ℕ
frames_of command.Frame = 1
frames_of (command.At time) = 0
frames_of (command.Set node field value) = 0
frames_of (command.Root json) = 0
frames_of (command.Resize w h) = 0
frames_of (command.Scroll node by) = 0
frames_of (command.Down pointer x y) = 0
frames_of (command.Move pointer x y) = 0
frames_of (command.Up pointer) = 0
frames_of (command.Cancel pointer) = 0
frames_of (command.Hit x y) = 0
frames_of command.Semantics = 0
frames_of (command.Act node action) = 0
frames_of (command.Delegate name field n) = 0
frames_of (command.Unplug name) = 0
frames_of command.States = 0
