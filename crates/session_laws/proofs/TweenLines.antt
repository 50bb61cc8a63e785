-- A tween that runs goes on as it is until it ends.
use Rattle.std.proofs.Common.{◌≡◌, ℕ, ◌+◌, ◌*◌, ◌≤◌, ◌==◌, ◌&&◌, Bool, true, false, nat_le, nat_lt, ◌⊎◌, inl, inr, Option, Some, None, option_map, List, [], ◌∷◌, length, filter, get_or, slice_set, refl, sym, ap, subst, ◌∙◌, if◌then◌else◌, arith}
use Rattle.std.specs.Prelude.{Contains}
use Rattle.std.specs.List.{position}
use Rattle.std.specs.Str.{bytes_eq}
use Rattle.std.proofs.lemmas.Bool.{cases_eq, eqb-true, false≢true}
use Rattle.std.proofs.lemmas.Bool.Decides.{nat_tests}
use Rattle.std.proofs.lemmas.List.{get_or-set_other, length-set}
use Rattle.std.proofs.lemmas.List.Elements.{Contains-append_left}
use Rattle.std.proofs.lemmas.List.Quantifiers.{position-Some}
use Rattle.std.proofs.lemmas.Slice.Eq.{bytes_eq-Decides}
use Rattle.cell_raster.specs.CellGrid.{max_cells, columns_of, rows_of, grid_of}
use Rattle.fx_geom.specs.declared.shapes.Size.{Size}
use Rattle.layer_tree.specs.declared.layers.Layer.{Layer}
use Rattle.script_lines.specs.declared.command.Action.TheVariants as action
use Rattle.script_lines.specs.declared.command.Command.{Command}
use Rattle.script_lines.specs.declared.command.Command.TheVariants as command
use Rattle.script_lines.specs.declared.entry.Entry.{Entry}
use Rattle.script_lines.specs.declared.entry.Entry.TheVariants as entry
use Rattle.tickers.specs.Running.{is_on, is_full, put, started}
use Rattle.tickers.specs.declared.tween.Tween.{Tween}
use Rattle.session_form.specs.FrameText.{layers_of}
use Rattle.session_form.specs.Outcome as outcome
use Rattle.session_form.specs.Seeing.{view_in}
use Rattle.session_form.specs.State.{SessionState}
use Rattle.session_form.specs.Step.{step}
use Rattle.session_form.specs.declared.refusal.Refusal.{Refusal}
use Rattle.live_session.specs.Cells.{drawn, cells_by, cell_of}
use Rattle.live_session.specs.EntryStep.{framed_by, command_step, entry_step}
use Rattle.live_session.specs.Focus.{order_in, is_in, focused, pressed}
use Rattle.live_session.specs.RunState.{RunState, Came, with_session, state_after}
use Rattle.live_session.specs.RunState as came
use Rattle.live_session.specs.Tweens.{set_number, set_at, started_by, with_values, stays, kept_by, tweens_kept}
use Rattle.live_session.specs.declared.refusal.LineRefusal.TheVariants as line_refusal
use Rattle.session_laws.specs.Tweens.{IsCancelled, IsEnded}
use Rattle.session_laws.proofs.WayLemmas.{first_in, cons_cases, later_in, none_in}

-- ---- lists of tweens

filter_by : (b : Bool) (x : Tween) (xs : List Tween) → (b ≡ true) ⊎ (b ≡ false) → Contains (if b then x ∷ xs else xs) x ⊎ (b ≡ false)
filter_by true x xs h = inl (first_in x xs)
filter_by false x xs h = inr refl

filter_later : (b : Bool) (y : Tween) (xs : List Tween) (x : Tween) → Contains xs x → Contains (if b then y ∷ xs else xs) x
filter_later true y xs x h = later_in y xs x h
filter_later false y xs x h = h

either_bool : (b : Bool) → (b ≡ true) ⊎ (b ≡ false)
either_bool true = inl refl
either_bool false = inr refl

filter_in : (test : Tween → Bool) (xs : List Tween) (x : Tween) → Contains xs x → Contains (filter test xs) x ⊎ (test x ≡ false)
filter_in test [] x h = absurd (none_in x h)
filter_in test (y ∷ xs) x h =
    elim (cons_cases y xs x h) [
      | inl here ↦ subst (λ z. Contains (filter test (y ∷ xs)) z ⊎ (test z ≡ false)) here (filter_by (test y) y (filter test xs) (either_bool (test y)))
      | inr later ↦ elim (filter_in test xs x later) [ inl kept ↦ inl (filter_later (test y) y (filter test xs) x kept) | inr out ↦ inr out ]
    ]

-- one that is started takes the place of one on its field alone
set_keeps : (p : Tween → Bool) (ts : List Tween) (u t : Tween) (i : ℕ) → position p ts ≡ Some i → Contains ts t → Contains (slice_set ts i u) t ⊎ (p t ≡ true)
set_keeps p ts u t i found (k, within, is) =
    let at = position-Some p ts i t found in
    elim (cases_eq k i) [
      | inl same ↦ inr (ap p (sym (ap (λ n. get_or ts n t) (sym same) ∙ is)) ∙ at.1)
      | inr other ↦ let long : length (slice_set ts i u) ≡ length ts = length-set ts i u in inl (k, omega (arith, within, long), get_or-set_other ts i k u t other ∙ is)
    ]

put_keeps : (p : Tween → Bool) (o : Option ℕ) (ts : List Tween) (u t : Tween) → position p ts ≡ o → Contains ts t → Contains (put o u ts) t ⊎ (p t ≡ true)
put_keeps p None ts u t found h = inl (Contains-append_left ts (u ∷ []) t h)
put_keeps p (Some i) ts u t found h = set_keeps p ts u t i found h

both_true : (a b : Bool) → (a && b) ≡ true → (a ≡ true) × (b ≡ true)
both_true true true e = (refl, refl)
both_true true false e = absurd (false≢true e)
both_true false b e = absurd (false≢true e)

on_field : (node : ℕ) (field : List ℕ) (t : Tween) → is_on node field t ≡ true → (t.node ≡ node) × (t.field ≡ field)
on_field node field t e =
    let both = both_true (t.node == node) (bytes_eq t.field field) e in
    (eqb-true t.node node both.0, (bytes_eq-Decides t.field field).0 both.1)

started_keeps : (u : Tween) (ts : List Tween) (t : Tween) → Contains ts t → Contains (started u ts) t ⊎ ((t.node ≡ u.node) × (t.field ≡ u.field))
started_keeps u ts t h =
    elim (put_keeps (is_on u.node u.field) (position (is_on u.node u.field) ts) ts u t refl h) [ inl kept ↦ inl kept | inr on ↦ inr (on_field u.node u.field t on) ]

-- ---- at a frame

stays_or_not : (o : outcome.Outcome) (t : Tween) (ts : List Tween) → Contains (kept_by (stays o) t ts) t ⊎ ((why : Refusal) × (o ≡ outcome.refused why))
stays_or_not (outcome.done s text) t ts = inl (first_in t ts)
stays_or_not (outcome.refused why) t ts = inr (why, refl)
stays_or_not (outcome.faulted fault) t ts = inl (first_in t ts)

kept_later : (b : Bool) (u : Tween) (ts : List Tween) (t : Tween) → Contains ts t → Contains (kept_by b u ts) t
kept_later true u ts t h = later_in u ts t h
kept_later false u ts t h = h

cancelled_later : (now : ℕ) (s : SessionState) (u : Tween) (ts : List Tween) (t : Tween) → IsCancelled now (outcome.state_after s (step s (set_at now u))) ts t → IsCancelled now s (u ∷ ts) t
cancelled_later now s u ts t c = record { front = u ∷ c.front; back = c.back; parts = ap (λ l. u ∷ l) c.parts; why = c.why; refused = c.refused }

kept_or_cancelled : (now : ℕ) (ts : List Tween) (s : SessionState) (t : Tween) → Contains ts t → Contains (tweens_kept now s ts) t ⊎ IsCancelled now s ts t
kept_or_cancelled now [] s t h = absurd (none_in t h)
kept_or_cancelled now (u ∷ ts) s t h =
    let o = step s (set_at now u) in
    let next = outcome.state_after s o in
    let rest = tweens_kept now next ts in
    elim (cons_cases u ts t h) [
      | inl here ↦ subst (λ z. Contains (tweens_kept now s (u ∷ ts)) z ⊎ IsCancelled now s (u ∷ ts) z) here
          (elim (stays_or_not o u rest) [
            | inl kept ↦ inl kept
            | inr out ↦ inr (record { front = []; back = ts; parts = refl; why = out.0; refused = out.1 })
          ])
      | inr later ↦ elim (kept_or_cancelled now ts next t later) [
        | inl kept ↦ inl (kept_later (stays o) u rest t kept)
        | inr out ↦ inr (cancelled_later now s u ts t out)
      ]
    ]

abbrev Later : Entry → RunState → Tween → Came → Type 0
Later e r t c = Contains (state_after r c).tweens t ⊎ IsEnded e r t

over_by : (now : ℕ) (t : Tween) → nat_lt now (t.start + t.ms) ≡ false → t.start + t.ms ≤ now
over_by now t e = grind (arith, nat_tests)

frame_keeps : (o : outcome.Outcome) (r : RunState) (t : Tween) → Contains r.tweens t
    → Later (entry.Line command.Frame) r t (framed_by o r.session.time (tweens_kept r.session.time r.session r.tweens) r)
frame_keeps (outcome.done s text) r t h =
    let now = r.session.time in
    elim (kept_or_cancelled now r.tweens r.session t h) [
      | inl kept ↦ elim (filter_in (λ u. nat_lt now (u.start + u.ms)) (tweens_kept now r.session r.tweens) t kept) [ inl there ↦ inl there | inr over ↦ inr (inl (over_by now t over)) ]
      | inr out ↦ inr (inr out)
    ]
frame_keeps (outcome.refused why) r t h = inl h
frame_keeps (outcome.faulted fault) r t h = inl h

-- ---- each line

by_session : (o : outcome.Outcome) (e : Entry) (r : RunState) (t : Tween) → Contains r.tweens t → Later e r t (with_session o r)
by_session (outcome.done s text) e r t h = inl h
by_session (outcome.refused why) e r t h = inl h
by_session (outcome.faulted fault) e r t h = inl h

either : (b : Bool) (e : Entry) (r : RunState) (t : Tween) (x y : Came) → Later e r t x → Later e r t y → Later e r t (if b then x else y)
either true e r t x y h k = h
either false e r t x y h k = k

starts : (o : outcome.Outcome) (e : Entry) (u : Tween) (r : RunState) (t : Tween) → Contains r.tweens t → ((t.node ≡ u.node) × (t.field ≡ u.field) → IsEnded e r t) → Later e r t (started_by o u r)
starts (outcome.done s text) e u r t h ends = elim (started_keeps u r.tweens t h) [ inl kept ↦ inl kept | inr on ↦ inr (ends on) ]
starts (outcome.refused why) e u r t h ends = inl h
starts (outcome.faulted fault) e u r t h ends = inl h

presses : (focus : Option ℕ) (r : RunState) (t : Tween) → Contains r.tweens t → Later entry.Press r t (pressed focus r)
presses None r t h = inl h
presses (Some number) r t h = by_session (step r.session (command.Act number action.Tap)) entry.Press r t h

draws : (root : Option Layer) (view : Option Size) (cell : Size) (r : RunState) (t : Tween) → Contains r.tweens t → Later entry.Cells r t (cells_by root view cell r)
draws None view cell r t h = inl h
draws (Some root) None cell r t h = inl h
draws (Some root) (Some view) cell r t h =
    either (nat_le (columns_of view cell * rows_of view cell) max_cells) entry.Cells r t (drawn (grid_of root view cell) r) (came.refused line_refusal.TooManyCells) (inl h) (inl h)

commands : (r : RunState) (k : Command) (t : Tween) → Contains r.tweens t → Later (entry.Line k) r t (command_step r k)
commands r command.Frame t h = frame_keeps (step (with_values r.session.time r.tweens r.session) command.Frame) r t h
commands r (command.At time) t h = by_session (step r.session (command.At time)) (entry.Line (command.At time)) r t h
commands r (command.Set node field value) t h = by_session (step r.session (command.Set node field value)) (entry.Line (command.Set node field value)) r t h
commands r (command.Root json) t h = by_session (step r.session (command.Root json)) (entry.Line (command.Root json)) r t h
commands r (command.Resize w k) t h = by_session (step r.session (command.Resize w k)) (entry.Line (command.Resize w k)) r t h
commands r (command.Scroll node by) t h = by_session (step r.session (command.Scroll node by)) (entry.Line (command.Scroll node by)) r t h
commands r (command.Down pointer x y) t h = by_session (step r.session (command.Down pointer x y)) (entry.Line (command.Down pointer x y)) r t h
commands r (command.Move pointer x y) t h = by_session (step r.session (command.Move pointer x y)) (entry.Line (command.Move pointer x y)) r t h
commands r (command.Up pointer) t h = by_session (step r.session (command.Up pointer)) (entry.Line (command.Up pointer)) r t h
commands r (command.Cancel pointer) t h = by_session (step r.session (command.Cancel pointer)) (entry.Line (command.Cancel pointer)) r t h
commands r (command.Hit x y) t h = by_session (step r.session (command.Hit x y)) (entry.Line (command.Hit x y)) r t h
commands r command.Semantics t h = by_session (step r.session command.Semantics) (entry.Line command.Semantics) r t h
commands r (command.Act node what) t h = by_session (step r.session (command.Act node what)) (entry.Line (command.Act node what)) r t h
commands r (command.Delegate name field n) t h = by_session (step r.session (command.Delegate name field n)) (entry.Line (command.Delegate name field n)) r t h
commands r (command.Unplug name) t h = by_session (step r.session (command.Unplug name)) (entry.Line (command.Unplug name)) r t h
commands r command.States t h = by_session (step r.session command.States) (entry.Line command.States) r t h

pub runs_on : (r : RunState) (e : Entry) (t : Tween) → Contains r.tweens t → Contains (state_after r (entry_step r e)).tweens t ⊎ IsEnded e r t
runs_on r (entry.Line k) t h = commands r k t h
runs_on r (entry.Tween node field from to ms curve) t h =
    let u : Tween = record { node = node; field = field; from = from; to = to; start = r.session.time; ms = ms; curve = curve } in
    let e = entry.Tween node field from to ms curve in
    either (is_full r.tweens node field) e r t (came.refused line_refusal.TooManyTweens) (started_by (step r.session (set_number node field from)) u r) (inl h)
    (starts (step r.session (set_number node field from)) e u r t h (λ on. on))
runs_on r entry.FocusNext t h = inl h
runs_on r entry.FocusPrev t h = inl h
runs_on r (entry.FocusOn node) t h =
    either (is_in (order_in r.session.shown) node) (entry.FocusOn node) r t (focused (Some node) r) (came.refused line_refusal.NotFocusable) (inl h) (inl h)
runs_on r entry.FocusNone t h = inl h
runs_on r entry.Press t h = presses r.focus r t h
runs_on r entry.Cells t h = draws (option_map (layers_of (cell_of r.session)) r.session.shown) (view_in r.session.shown) (cell_of r.session) r t h
