-- What each line leaves of tweens that run on fields of their own.
use Rattle.std.proofs.Common.{◌≡◌, ℕ, ◌+◌, ◌*◌, Bool, true, false, nat_le, nat_lt, Option, Some, None, option_map, List, [], ◌∷◌, ◌++◌, All, ap, subst, ◌∙◌, arith, if◌then◌else◌}
use Rattle.std.proofs.lemmas.List.Elements.{All-cons, All-tail}
use Rattle.cell_raster.specs.CellGrid.{max_cells, columns_of, rows_of, grid_of}
use Rattle.fx_expr.specs.declared.values.Value.{Value}
use Rattle.fx_expr.specs.declared.values.Value.TheVariants as value
use Rattle.fx_geom.specs.declared.shapes.Size.{Size}
use Rattle.layer_tree.specs.declared.layers.Layer.{Layer}
use Rattle.script_lines.specs.declared.command.Action.TheVariants as action
use Rattle.script_lines.specs.declared.command.Command.{Command}
use Rattle.script_lines.specs.declared.command.Command.TheVariants as command
use Rattle.script_lines.specs.declared.entry.Entry.{Entry}
use Rattle.script_lines.specs.declared.entry.Entry.TheVariants as entry
use Rattle.tickers.specs.Running.{AreApart, is_full}
use Rattle.tickers.specs.Tween.{IsInRange, tween_value_of}
use Rattle.tickers.specs.declared.tween.Tween.{Tween}
use Rattle.tickers.proofs.Apart.{IsOff, started_apart, filter_apart, head_apart, tail_apart, first_apart, before_apart, after_apart}
use Rattle.session_form.specs.FrameText.{layers_of}
use Rattle.session_form.specs.Outcome as outcome
use Rattle.session_form.specs.Seeing.{view_in}
use Rattle.session_form.specs.State.{SessionState}
use Rattle.session_form.specs.Step.{step}
use Rattle.live_session.specs.Cells.{drawn, cells_by, cell_of}
use Rattle.live_session.specs.EntryStep.{framed_by, command_step, entry_step}
use Rattle.live_session.specs.Fields.{field_in}
use Rattle.live_session.specs.Focus.{order_in, is_in, focused, pressed}
use Rattle.live_session.specs.RunState.{RunState, Came, refused, state_after, with_session}
use Rattle.live_session.specs.Tweens.{set_number, set_at, started_by, with_values, stays, kept_by, tweens_kept}
use Rattle.live_session.specs.declared.refusal.LineRefusal.TheVariants as refusal
use Rattle.live_session.proofs.TweenFieldLemmas.{tween_sets}

-- ---- those that aren't cancelled at a frame

kept_all : (P : Tween → Type 0) (b : Bool) (t : Tween) (ts : List Tween) → P t → All P ts → All P (kept_by b t ts)
kept_all P true t ts one all = All-cons P t ts one all
kept_all P false t ts one all = all

all_kept : (P : Tween → Type 0) (now : ℕ) (ts : List Tween) (s : SessionState) → All P ts → All P (tweens_kept now s ts)
all_kept P now [] s all = all
all_kept P now (t ∷ ts) s all =
    let next = outcome.state_after s (step s (set_at now t)) in
    kept_all P (stays (step s (set_at now t))) t (tweens_kept now next ts) (all 0 t (omega arith)) (all_kept P now ts next (All-tail P t ts all))

kept_by_apart : (b : Bool) (t : Tween) (ts : List Tween) → All (IsOff t) ts → AreApart ts → AreApart (kept_by b t ts)
kept_by_apart true t ts off apart = first_apart t ts off apart
kept_by_apart false t ts off apart = apart

kept_apart : (now : ℕ) (ts : List Tween) (s : SessionState) → AreApart ts → AreApart (tweens_kept now s ts)
kept_apart now [] s apart = apart
kept_apart now (t ∷ ts) s apart =
    let next = outcome.state_after s (step s (set_at now t)) in
    kept_by_apart (stays (step s (set_at now t))) t (tweens_kept now next ts)
    (all_kept (IsOff t) now ts next (head_apart t ts apart)) (kept_apart now ts next (tail_apart t ts apart))

-- ---- each line

-- in the state that a line leaves
abbrev LeavesApart : RunState → Came → Type 0
LeavesApart r came = AreApart (state_after r came).tweens

framed_apart : (o : outcome.Outcome) (now : ℕ) (ts : List Tween) (r : RunState) → AreApart r.tweens → AreApart ts → LeavesApart r (framed_by o now ts r)
framed_apart (outcome.done s text) now ts r apart kept = filter_apart (λ t. nat_lt now (t.start + t.ms)) ts kept
framed_apart (outcome.refused why) now ts r apart kept = apart
framed_apart (outcome.faulted fault) now ts r apart kept = apart

session_apart : (o : outcome.Outcome) (r : RunState) → AreApart r.tweens → LeavesApart r (with_session o r)
session_apart (outcome.done s text) r apart = apart
session_apart (outcome.refused why) r apart = apart
session_apart (outcome.faulted fault) r apart = apart

command_apart : (r : RunState) (k : Command) → AreApart r.tweens → LeavesApart r (command_step r k)
command_apart r command.Frame apart =
    let now = r.session.time in
    framed_apart (step (with_values now r.tweens r.session) command.Frame) now (tweens_kept now r.session r.tweens) r apart
    (kept_apart now r.tweens r.session apart)
command_apart r (command.At time) apart = session_apart (step r.session (command.At time)) r apart
command_apart r (command.Set node field v) apart = session_apart (step r.session (command.Set node field v)) r apart
command_apart r (command.Root json) apart = session_apart (step r.session (command.Root json)) r apart
command_apart r (command.Resize w h) apart = session_apart (step r.session (command.Resize w h)) r apart
command_apart r (command.Scroll node by) apart = session_apart (step r.session (command.Scroll node by)) r apart
command_apart r (command.Down pointer x y) apart = session_apart (step r.session (command.Down pointer x y)) r apart
command_apart r (command.Move pointer x y) apart = session_apart (step r.session (command.Move pointer x y)) r apart
command_apart r (command.Up pointer) apart = session_apart (step r.session (command.Up pointer)) r apart
command_apart r (command.Cancel pointer) apart = session_apart (step r.session (command.Cancel pointer)) r apart
command_apart r (command.Hit x y) apart = session_apart (step r.session (command.Hit x y)) r apart
command_apart r command.Semantics apart = session_apart (step r.session command.Semantics) r apart
command_apart r (command.Act node act) apart = session_apart (step r.session (command.Act node act)) r apart
command_apart r (command.Delegate name field n) apart = session_apart (step r.session (command.Delegate name field n)) r apart
command_apart r (command.Unplug name) apart = session_apart (step r.session (command.Unplug name)) r apart
command_apart r command.States apart = session_apart (step r.session command.States) r apart

started_by_apart : (o : outcome.Outcome) (t : Tween) (r : RunState) → AreApart r.tweens → LeavesApart r (started_by o t r)
started_by_apart (outcome.done s text) t r apart = started_apart t r.tweens apart
started_by_apart (outcome.refused why) t r apart = apart
started_by_apart (outcome.faulted fault) t r apart = apart

-- where a test lets a line do something, and else refuses it
either_apart : (b : Bool) (r : RunState) (x y : Came) → LeavesApart r x → LeavesApart r y → LeavesApart r (if b then x else y)
either_apart true r x y a b = a
either_apart false r x y a b = b

tween_apart : (t : Tween) (r : RunState) (b : Bool) → AreApart r.tweens
    → LeavesApart r (if b then refused refusal.TooManyTweens else started_by (step r.session (set_number t.node t.field t.from)) t r)
tween_apart t r b apart =
    let o = step r.session (set_number t.node t.field t.from) in
    either_apart b r (refused refusal.TooManyTweens) (started_by o t r) apart (started_by_apart o t r apart)

pressed_apart : (focus : Option ℕ) (r : RunState) → AreApart r.tweens → LeavesApart r (pressed focus r)
pressed_apart None r apart = apart
pressed_apart (Some number) r apart = session_apart (step r.session (command.Act number action.Tap)) r apart

drawn_apart : (root : Option Layer) (view : Option Size) (cell : Size) (r : RunState) → AreApart r.tweens → LeavesApart r (cells_by root view cell r)
drawn_apart None view cell r apart = apart
drawn_apart (Some root) None cell r apart = apart
drawn_apart (Some root) (Some view) cell r apart =
    either_apart (nat_le (columns_of view cell * rows_of view cell) max_cells) r (drawn (grid_of root view cell) r) (refused refusal.TooManyCells) apart apart

pub entry_apart : (r : RunState) (e : Entry) → AreApart r.tweens → AreApart (state_after r (entry_step r e)).tweens
entry_apart r (entry.Line k) apart = command_apart r k apart
entry_apart r (entry.Tween node field from to ms curve) apart =
    let t : Tween = record { node = node; field = field; from = from; to = to; start = r.session.time; ms = ms; curve = curve } in
    tween_apart t r (is_full r.tweens node field) apart
entry_apart r entry.FocusNext apart = apart
entry_apart r entry.FocusPrev apart = apart
entry_apart r (entry.FocusOn node) apart =
    either_apart (is_in (order_in r.session.shown) node) r (focused (Some node) r) (refused refusal.NotFocusable) apart apart
entry_apart r entry.FocusNone apart = apart
entry_apart r entry.Press apart = pressed_apart r.focus r apart
entry_apart r entry.Cells apart =
    drawn_apart (option_map (layers_of (cell_of r.session)) r.session.shown) (view_in r.session.shown) (cell_of r.session) r apart

pub running_sets : (r : RunState) (next : SessionState) (front back : List Tween) (t : Tween) (text : List ℕ) (old : Value) → AreApart r.tweens
    → r.tweens ≡ front ++ t ∷ back → IsInRange t → field_in r.session t.node t.field ≡ Some old
    → step (with_values r.session.time front r.session) (set_at r.session.time t) ≡ outcome.done next text
    → field_in (with_values r.session.time r.tweens r.session) t.node t.field ≡ Some (value.Int (tween_value_of t r.session.time))
running_sets r next front back t text old apart parts in_range there done =
    let split : AreApart (front ++ t ∷ back) = subst AreApart parts apart in
    ap (λ ts. field_in (with_values r.session.time ts r.session) t.node t.field) parts
    ∙ tween_sets r.session.time r.session next front back t text old in_range (before_apart front back t split) (after_apart front back t split) there done
