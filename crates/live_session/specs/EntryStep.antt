-- One script line of a run, by what it asks for: what it comes to. A command of the session is a step of it; `frame` where tweens
-- run, `tween` and `press` are said by such steps. The other lines of the focus, and `cells`, read what the last frame shows, and
-- leave the session as it is.
use Rattle.std.specs.Prelude.{ℕ, List, None}
use Rattle.screen_form.specs.FocusSteps.{next_of, prev_of}
use Rattle.script_lines.specs.declared.command.Command.{Command}
use Rattle.script_lines.specs.declared.command.Command.TheVariants as command
use Rattle.script_lines.specs.declared.entry.Entry.{Entry}
use Rattle.script_lines.specs.declared.entry.Entry.TheVariants as entry
use Rattle.tickers.specs.Running.{unfinished}
use Rattle.tickers.specs.declared.tween.Tween.{Tween}
use Rattle.session_form.specs.Outcome as outcome
use Rattle.session_form.specs.Step.{step}
use Rattle.live_session.specs.Cells.{cells_entry}
use Rattle.live_session.specs.Focus.{order_in, focus_kept, focused, focus_on, press_entry}
use Rattle.live_session.specs.RunState.{RunState, Came, went, refused, faulted, with_session}
use Rattle.live_session.specs.Tweens.{with_values, tweens_kept, tween_entry}
use Rattle.live_session.specs.declared.refusal.LineRefusal.TheVariants as refusal

-- ---- `frame`: the tweens' values are set, then comes the session's frame, then tweens are done whose time is over, and the focus
-- stays where it can

abbrev pub framed_by : outcome.Outcome → ℕ → List Tween → RunState → Came
framed_by (outcome.done s text) now ts r =
    went (record { session = s; tweens = unfinished now ts; focus = focus_kept (order_in s.shown) r.focus; grid = r.grid }) text
framed_by (outcome.refused why) now ts r = refused (refusal.Command why)
framed_by (outcome.faulted fault) now ts r = faulted fault

abbrev pub frame_entry : RunState → Came
frame_entry r =
    let now = r.session.time in
    framed_by (step (with_values now r.tweens r.session) command.Frame) now (tweens_kept now r.session r.tweens) r

-- ---- each command of the session but `frame` is a step of the session alone

abbrev pub command_step : RunState → Command → Came
command_step r command.Frame = frame_entry r
command_step r (command.At time) = with_session (step r.session (command.At time)) r
command_step r (command.Set node field value) = with_session (step r.session (command.Set node field value)) r
command_step r (command.Root json) = with_session (step r.session (command.Root json)) r
command_step r (command.Resize w h) = with_session (step r.session (command.Resize w h)) r
command_step r (command.Scroll node by) = with_session (step r.session (command.Scroll node by)) r
command_step r (command.Down pointer x y) = with_session (step r.session (command.Down pointer x y)) r
command_step r (command.Move pointer x y) = with_session (step r.session (command.Move pointer x y)) r
command_step r (command.Up pointer) = with_session (step r.session (command.Up pointer)) r
command_step r (command.Cancel pointer) = with_session (step r.session (command.Cancel pointer)) r
command_step r (command.Hit x y) = with_session (step r.session (command.Hit x y)) r
command_step r command.Semantics = with_session (step r.session command.Semantics) r
command_step r (command.Act node action) = with_session (step r.session (command.Act node action)) r
command_step r (command.Delegate name field n) = with_session (step r.session (command.Delegate name field n)) r
command_step r (command.Unplug name) = with_session (step r.session (command.Unplug name)) r
command_step r command.States = with_session (step r.session command.States) r

-- ---- each line

abbrev pub entry_step : RunState → Entry → Came
entry_step r (entry.Line command) = command_step r command
entry_step r (entry.Tween node field from to ms curve) =
    tween_entry (record { node = node; field = field; from = from; to = to; start = r.session.time; ms = ms; curve = curve }) r
entry_step r entry.FocusNext = focused (next_of (order_in r.session.shown) r.focus) r
entry_step r entry.FocusPrev = focused (prev_of (order_in r.session.shown) r.focus) r
entry_step r (entry.FocusOn node) = focus_on node r
entry_step r entry.FocusNone = focused None r
entry_step r entry.Press = press_entry r
entry_step r entry.Cells = cells_entry r
