-- The same of each line of a run.
use Rattle.std.proofs.Common.{ℕ, ◌*◌, Bool, true, false, nat_le, Option, Some, None, option_map, List, [], ◌∷◌, if◌then◌else◌}
use Rattle.cell_raster.specs.CellGrid.{max_cells, columns_of, rows_of, grid_of}
use Rattle.fx_geom.specs.declared.shapes.Size.{Size}
use Rattle.layer_tree.specs.declared.layers.Layer.{Layer}
use Rattle.script_lines.specs.declared.command.Action.TheVariants as action
use Rattle.script_lines.specs.declared.command.Command.{Command}
use Rattle.script_lines.specs.declared.command.Command.TheVariants as command
use Rattle.script_lines.specs.declared.entry.Entry.{Entry}
use Rattle.script_lines.specs.declared.entry.Entry.TheVariants as entry
use Rattle.tickers.specs.Running.{is_full}
use Rattle.tickers.specs.declared.tween.Tween.{Tween}
use Rattle.session_form.specs.FrameText.{layers_of}
use Rattle.session_form.specs.Outcome as outcome
use Rattle.session_form.specs.Seeing.{view_in}
use Rattle.session_form.specs.State.{SessionState}
use Rattle.session_form.specs.Step.{step}
use Rattle.live_session.specs.Cells.{drawn, cells_by, cell_of}
use Rattle.live_session.specs.EntryStep.{framed_by, command_step, entry_step}
use Rattle.live_session.specs.Focus.{order_in, is_in, focused, pressed}
use Rattle.live_session.specs.RunState.{RunState, Came, with_session}
use Rattle.live_session.specs.RunState as came
use Rattle.live_session.specs.Tweens.{set_number, set_at, started_by, with_values, tweens_kept}
use Rattle.live_session.specs.declared.refusal.LineRefusal.TheVariants as line_refusal
use Rattle.session_laws.specs.Closed.{StaysChanged, StaysFramed}
use Rattle.session_laws.specs.Runs.{after_lines}
use Rattle.session_laws.proofs.Closed.{after_command}

module _ (P : SessionState → Type 0) (closed : StaysChanged P) (framing : StaysFramed P) where
  abbrev Here : SessionState → outcome.Outcome → Type 0
  Here s o = P (outcome.state_after s o)

  abbrev Later : RunState → Came → Type 0
  Later r c = P (came.state_after r c).session

  either : (b : Bool) (r : RunState) (x y : Came) → Later r x → Later r y → Later r (if b then x else y)
  either true r x y h k = h
  either false r x y h k = k

  by_session : (o : outcome.Outcome) (r : RunState) → P r.session → Here r.session o → Later r (with_session o r)
  by_session (outcome.done s text) r p h = h
  by_session (outcome.refused why) r p h = p
  by_session (outcome.faulted fault) r p h = p

  pub by_values : (now : ℕ) (ts : List Tween) (s : SessionState) → P s → P (with_values now ts s)
  by_values now [] s p = p
  by_values now (t ∷ ts) s p = by_values now ts (outcome.state_after s (step s (set_at now t))) (after_command P closed framing s (set_at now t) p)

  by_frame : (o : outcome.Outcome) (s : SessionState) (now : ℕ) (ts : List Tween) (r : RunState) → P r.session → Here s o → Later r (framed_by o now ts r)
  by_frame (outcome.done t text) s now ts r p h = h
  by_frame (outcome.refused why) s now ts r p h = p
  by_frame (outcome.faulted fault) s now ts r p h = p

  starts : (o : outcome.Outcome) (t : Tween) (r : RunState) → P r.session → Here r.session o → Later r (started_by o t r)
  starts (outcome.done s text) t r p h = h
  starts (outcome.refused why) t r p h = p
  starts (outcome.faulted fault) t r p h = p

  presses : (focus : Option ℕ) (r : RunState) → P r.session → Later r (pressed focus r)
  presses None r p = p
  presses (Some number) r p = by_session (step r.session (command.Act number action.Tap)) r p (after_command P closed framing r.session (command.Act number action.Tap) p)

  draws : (root : Option Layer) (view : Option Size) (cell : Size) (r : RunState) → P r.session → Later r (cells_by root view cell r)
  draws None view cell r p = p
  draws (Some root) None cell r p = p
  draws (Some root) (Some view) cell r p =
      either (nat_le (columns_of view cell * rows_of view cell) max_cells) r (drawn (grid_of root view cell) r) (came.refused line_refusal.TooManyCells) p p

  by_command : (r : RunState) (k : Command) → P r.session → Later r (command_step r k)
  by_command r command.Frame p =
      let now = r.session.time in
      let s = with_values now r.tweens r.session in
      by_frame (step s command.Frame) s now (tweens_kept now r.session r.tweens) r p (after_command P closed framing s command.Frame (by_values now r.tweens r.session p))
  by_command r (command.At time) p = by_session (step r.session (command.At time)) r p (after_command P closed framing r.session (command.At time) p)
  by_command r (command.Set node field value) p = by_session (step r.session (command.Set node field value)) r p (after_command P closed framing r.session (command.Set node field value) p)
  by_command r (command.Root json) p = by_session (step r.session (command.Root json)) r p (after_command P closed framing r.session (command.Root json) p)
  by_command r (command.Resize w h) p = by_session (step r.session (command.Resize w h)) r p (after_command P closed framing r.session (command.Resize w h) p)
  by_command r (command.Scroll node by) p = by_session (step r.session (command.Scroll node by)) r p (after_command P closed framing r.session (command.Scroll node by) p)
  by_command r (command.Down pointer x y) p = by_session (step r.session (command.Down pointer x y)) r p (after_command P closed framing r.session (command.Down pointer x y) p)
  by_command r (command.Move pointer x y) p = by_session (step r.session (command.Move pointer x y)) r p (after_command P closed framing r.session (command.Move pointer x y) p)
  by_command r (command.Up pointer) p = by_session (step r.session (command.Up pointer)) r p (after_command P closed framing r.session (command.Up pointer) p)
  by_command r (command.Cancel pointer) p = by_session (step r.session (command.Cancel pointer)) r p (after_command P closed framing r.session (command.Cancel pointer) p)
  by_command r (command.Hit x y) p = by_session (step r.session (command.Hit x y)) r p p
  by_command r command.Semantics p = by_session (step r.session command.Semantics) r p p
  by_command r (command.Act node what) p = by_session (step r.session (command.Act node what)) r p (after_command P closed framing r.session (command.Act node what) p)
  by_command r (command.Delegate name field n) p = by_session (step r.session (command.Delegate name field n)) r p (after_command P closed framing r.session (command.Delegate name field n) p)
  by_command r (command.Unplug name) p = by_session (step r.session (command.Unplug name)) r p (after_command P closed framing r.session (command.Unplug name) p)
  by_command r command.States p = by_session (step r.session command.States) r p p

  pub after_entry : (r : RunState) (e : Entry) → P r.session → P (came.state_after r (entry_step r e)).session
  after_entry r (entry.Line k) p = by_command r k p
  after_entry r (entry.Tween node field from to ms curve) p =
      let t : Tween = record { node = node; field = field; from = from; to = to; start = r.session.time; ms = ms; curve = curve } in
      let o = step r.session (set_number node field from) in
      either (is_full r.tweens node field) r (came.refused line_refusal.TooManyTweens) (started_by o t r) p (starts o t r p (after_command P closed framing r.session (set_number node field from) p))
  after_entry r entry.FocusNext p = p
  after_entry r entry.FocusPrev p = p
  after_entry r (entry.FocusOn node) p =
      either (is_in (order_in r.session.shown) node) r (focused (Some node) r) (came.refused line_refusal.NotFocusable) p p
  after_entry r entry.FocusNone p = p
  after_entry r entry.Press p = presses r.focus r p
  after_entry r entry.Cells p =
      draws (option_map (layers_of (cell_of r.session)) r.session.shown) (view_in r.session.shown) (cell_of r.session) r p

  pub after_all : (r : RunState) (es : List Entry) → P r.session → P (after_lines r es).session
  after_all r [] p = p
  after_all r (e ∷ es) p = after_all (came.state_after r (entry_step r e)) es (after_entry r e p)
