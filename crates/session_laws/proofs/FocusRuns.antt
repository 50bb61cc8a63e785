-- The focus in a run: who has it can have it, and a frame leaves it where it can stay.
use Rattle.std.proofs.Common.{◌≡◌, ◌↔◌, ℕ, ◌*◌, Bool, true, false, nat_le, Option, Some, None, IfSome, option_map, List, [], ◌∷◌, map, refl, sym, ap, subst, if◌then◌else◌}
use Rattle.std.specs.Prelude.{Contains, IsPermutation}
use Rattle.cell_raster.specs.CellGrid.{max_cells, columns_of, rows_of, grid_of}
use Rattle.fx_geom.specs.Offset.{origin}
use Rattle.fx_geom.specs.declared.shapes.Size.{Size}
use Rattle.layer_tree.specs.declared.layers.Layer.{Layer}
use Rattle.plain_tree.specs.Laid.{Laid}
use Rattle.plain_tree.specs.Laws.{laid_numbers_of, AllDiffer}
use Rattle.screen_form.specs.FocusOrder.{spots_of, number_of, focus_order_of}
use Rattle.script_lines.specs.declared.command.Action.TheVariants as action
use Rattle.script_lines.specs.declared.command.Command.{Command}
use Rattle.script_lines.specs.declared.command.Command.TheVariants as command
use Rattle.script_lines.specs.declared.entry.Entry.{Entry}
use Rattle.script_lines.specs.declared.entry.Entry.TheVariants as entry
use Rattle.tickers.specs.Running.{is_full}
use Rattle.tickers.specs.declared.tween.Tween.{Tween}
use Rattle.session_form.specs.FrameText.{layers_of}
use Rattle.session_form.specs.Outcome as outcome
use Rattle.session_form.specs.Seeing.{view_in}
use Rattle.session_form.specs.State.{SessionState, Shown}
use Rattle.session_form.specs.Step.{step}
use Rattle.live_session.specs.Cells.{drawn, cells_by, cell_of}
use Rattle.live_session.specs.EntryStep.{frame_entry, command_step, entry_step}
use Rattle.live_session.specs.Focus.{order_in, is_in, focused, pressed}
use Rattle.live_session.specs.RunState.{RunState, Came, went, refused, faulted, with_session, state_after}
use Rattle.live_session.specs.Tweens.{set_number, started_by}
use Rattle.live_session.specs.declared.refusal.LineRefusal.TheVariants as line_refusal
use Rattle.live_session.proofs.FrameFocusLemmas.{kept_where_in}
use Rattle.session_laws.specs.Closed.{StaysChanged}
use Rattle.session_laws.specs.Focus.{CanTakeFocusIn, IsThere}
use Rattle.session_laws.specs.Numbers.{HasNumbers}
use Rattle.session_laws.specs.Runs.{after_lines, HasFocus}
use Rattle.session_laws.proofs.Closed.{after_other}
use Rattle.session_laws.proofs.FocusLemmas.{next_in, prev_in, takes_of, of_takes, takes_there}
use Rattle.session_laws.proofs.NumberLemmas.{shown_apart}
use Rattle.session_laws.proofs.WayLemmas.{none_in}

-- ---- a command but `frame` leaves what is shown

shown_stays : (o : Option Shown) → StaysChanged (λ (s : SessionState). s.shown ≡ o)
shown_stays o = record {
  set = λ s number k n d vs more name bytes field v found is at reads p. p;
  scroll = λ s k offset p. p;
  handle = λ s number g h dx dy has test p. p;
  root = λ s t b is p. p;
  resize = λ s view p. p;
  plug = λ s ds name p. p;
  pointers = λ s ps p. p;
  time = λ s t p. p;
}

pub same_shown : (s : SessionState) (k : Command) → (k ≡ command.Frame → ⊥) → (outcome.state_after s (step s k)).shown ≡ s.shown
same_shown s k other = after_other (λ (x : SessionState). x.shown ≡ s.shown) (shown_stays s.shown) s k other refl

-- ---- who has the focus stands in the order

-- what the law of frames says
abbrev pub FramesKeep : Type 0
FramesKeep = (r next : RunState) (text : List ℕ) (number : ℕ) → frame_entry r ≡ went next text
    → (next.focus ≡ Some number) ↔ ((r.focus ≡ Some number) × Contains (order_in next.session.shown) number)

abbrev InOrder : Option Shown → Option ℕ → Type 0
InOrder shown focus = IfSome focus (Contains (order_in shown))

abbrev Later : RunState → Came → Type 0
Later r c = HasFocus (state_after r c)

either : (b : Bool) (r : RunState) (x y : Came) → (b ≡ true → Later r x) → Later r y → Later r (if b then x else y)
either true r x y h k = h refl
either false r x y h k = k

by_session : (o : outcome.Outcome) (r : RunState) → (outcome.state_after r.session o).shown ≡ r.session.shown → HasFocus r → Later r (with_session o r)
by_session (outcome.done s text) r same h = subst (λ x. InOrder x r.focus) (sym same) h
by_session (outcome.refused why) r same h = h
by_session (outcome.faulted fault) r same h = h

starts : (o : outcome.Outcome) (t : Tween) (r : RunState) → (outcome.state_after r.session o).shown ≡ r.session.shown → HasFocus r → Later r (started_by o t r)
starts (outcome.done s text) t r same h = subst (λ x. InOrder x r.focus) (sym same) h
starts (outcome.refused why) t r same h = h
starts (outcome.faulted fault) t r same h = h

presses : (focus : Option ℕ) (r : RunState) → HasFocus r → Later r (pressed focus r)
presses None r h = h
presses (Some number) r h = by_session (step r.session (command.Act number action.Tap)) r (same_shown r.session (command.Act number action.Tap) (λ e. cc)) h

draws : (root : Option Layer) (view : Option Size) (cell : Size) (r : RunState) → HasFocus r → Later r (cells_by root view cell r)
draws None view cell r h = h
draws (Some root) None cell r h = h
draws (Some root) (Some view) cell r h =
    either (nat_le (columns_of view cell * rows_of view cell) max_cells) r (drawn (grid_of root view cell) r) (refused line_refusal.TooManyCells) (λ e. h) h

framed_some : (focus : Option ℕ) (order : List ℕ) → ((n : ℕ) → focus ≡ Some n → Contains order n) → IfSome focus (Contains order)
framed_some None order h = tt
framed_some (Some n) order h = h n refl

frames : FramesKeep → (c : Came) (r : RunState) → frame_entry r ≡ c → HasFocus r → Later r c
frames keep (went next text) r is h = framed_some next.focus (order_in next.session.shown) (λ n e. ((keep r next text n is).0 e).1)
frames keep (refused why) r is h = h
frames keep (faulted fault) r is h = h

on_node : (r : RunState) (n : ℕ) → is_in (order_in r.session.shown) n ≡ true → Contains (order_in r.session.shown) n
on_node r n e =
    let order = order_in r.session.shown in
    ((kept_where_in order (Some n) n).0 (ap (λ (b : Bool). if b then Some n else None) e)).1

commands : FramesKeep → (r : RunState) (k : Command) → HasFocus r → Later r (command_step r k)
commands keep r command.Frame h = frames keep (frame_entry r) r refl h
commands keep r (command.At time) h = by_session (step r.session (command.At time)) r (same_shown r.session (command.At time) (λ e. cc)) h
commands keep r (command.Set node field value) h = by_session (step r.session (command.Set node field value)) r (same_shown r.session (command.Set node field value) (λ e. cc)) h
commands keep r (command.Root json) h = by_session (step r.session (command.Root json)) r (same_shown r.session (command.Root json) (λ e. cc)) h
commands keep r (command.Resize w k) h = by_session (step r.session (command.Resize w k)) r (same_shown r.session (command.Resize w k) (λ e. cc)) h
commands keep r (command.Scroll node by) h = by_session (step r.session (command.Scroll node by)) r (same_shown r.session (command.Scroll node by) (λ e. cc)) h
commands keep r (command.Down pointer x y) h = by_session (step r.session (command.Down pointer x y)) r (same_shown r.session (command.Down pointer x y) (λ e. cc)) h
commands keep r (command.Move pointer x y) h = by_session (step r.session (command.Move pointer x y)) r (same_shown r.session (command.Move pointer x y) (λ e. cc)) h
commands keep r (command.Up pointer) h = by_session (step r.session (command.Up pointer)) r (same_shown r.session (command.Up pointer) (λ e. cc)) h
commands keep r (command.Cancel pointer) h = by_session (step r.session (command.Cancel pointer)) r (same_shown r.session (command.Cancel pointer) (λ e. cc)) h
commands keep r (command.Hit x y) h = by_session (step r.session (command.Hit x y)) r refl h
commands keep r command.Semantics h = by_session (step r.session command.Semantics) r refl h
commands keep r (command.Act node what) h = by_session (step r.session (command.Act node what)) r (same_shown r.session (command.Act node what) (λ e. cc)) h
commands keep r (command.Delegate name field n) h = by_session (step r.session (command.Delegate name field n)) r (same_shown r.session (command.Delegate name field n) (λ e. cc)) h
commands keep r (command.Unplug name) h = by_session (step r.session (command.Unplug name)) r (same_shown r.session (command.Unplug name) (λ e. cc)) h
commands keep r command.States h = by_session (step r.session command.States) r refl h

pub entry_keeps : FramesKeep → (r : RunState) (e : Entry) → HasFocus r → HasFocus (state_after r (entry_step r e))
entry_keeps keep r (entry.Line k) h = commands keep r k h
entry_keeps keep r (entry.Tween node field from to ms curve) h =
    let t : Tween = record { node = node; field = field; from = from; to = to; start = r.session.time; ms = ms; curve = curve } in
    let set = set_number node field from in
    either (is_full r.tweens node field) r (refused line_refusal.TooManyTweens) (started_by (step r.session set) t r) (λ e. h)
    (starts (step r.session set) t r (same_shown r.session set (λ e. cc)) h)
entry_keeps keep r entry.FocusNext h = next_in (order_in r.session.shown) r.focus
entry_keeps keep r entry.FocusPrev h = prev_in (order_in r.session.shown) r.focus
entry_keeps keep r (entry.FocusOn node) h =
    either (is_in (order_in r.session.shown) node) r (focused (Some node) r) (refused line_refusal.NotFocusable) (on_node r node) h
entry_keeps keep r entry.FocusNone h = tt
entry_keeps keep r entry.Press h = presses r.focus r h
entry_keeps keep r entry.Cells h = draws (option_map (layers_of (cell_of r.session)) r.session.shown) (view_in r.session.shown) (cell_of r.session) r h

pub lines_keep : FramesKeep → (r : RunState) (es : List Entry) → HasFocus r → HasFocus (after_lines r es)
lines_keep keep r [] h = h
lines_keep keep r (e ∷ es) h = lines_keep keep (state_after r (entry_step r e)) es (entry_keeps keep r e h)

-- ---- said by nodes

-- what the law of the order says
abbrev pub OrdersHave : Type 0
OrdersHave = (root : Laid) → AllDiffer (laid_numbers_of root) → IsPermutation (map number_of (spots_of root origin)) (focus_order_of root)

takes_in : OrdersHave → (s : SessionState) (o : Option Shown) (n : ℕ) → HasNumbers s → s.shown ≡ o → Contains (order_in o) n → CanTakeFocusIn o n
takes_in have s None n h is there = none_in n there
takes_in have s (Some l) n h is there = takes_of l.laid n (have l.laid (shown_apart s l h is).differ) there

in_takes : OrdersHave → (s : SessionState) (o : Option Shown) (n : ℕ) → HasNumbers s → s.shown ≡ o → CanTakeFocusIn o n → Contains (order_in o) n
in_takes have s None n h is can = absurd can
in_takes have s (Some l) n h is can = of_takes l.laid n (have l.laid (shown_apart s l h is).differ) can

has_one : (focus : Option ℕ) (order : List ℕ) (n : ℕ) → IfSome focus (Contains order) → focus ≡ Some n → Contains order n
has_one focus order n h e = subst (λ f. IfSome f (Contains order)) e h

pub framed_focus : FramesKeep → OrdersHave → (r next : RunState) (text : List ℕ) (n : ℕ) → HasNumbers r.session → HasNumbers next.session → HasFocus r → frame_entry r ≡ went next text
    → (next.focus ≡ Some n) ↔ ((r.focus ≡ Some n) × IsThere r.session.tree n × IsThere next.session.tree n × CanTakeFocusIn next.session.shown n)
framed_focus keep have r next text n before after focus is = (
  λ e.
      let both = (keep r next text n is).0 e in
      let was = has_one r.focus (order_in r.session.shown) n focus both.0 in
      let can = takes_in have next.session next.session.shown n after refl both.1 in
      (both.0, takes_there r.session.tree r.session.shown n before.shows (takes_in have r.session r.session.shown n before refl was), takes_there next.session.tree next.session.shown n after.shows can, can),
  λ all. (keep r next text n is).1 (all.0, in_takes have next.session next.session.shown n after refl all.3),
)
