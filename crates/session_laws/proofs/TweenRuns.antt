-- The field of a running tween is a number as long as its node is there, in each state of a run.
use Rattle.std.proofs.Common.{◌≡◌, ℕ, ◌+◌, ◌*◌, ◌<◌, ◌≤◌, ℤ, Bool, true, false, nat_le, nat_lt, ◌⊎◌, inl, inr, Option, Some, None, option_map, List, [], ◌∷◌, ◌++◌, filter, length, get_or, slice_set, refl, sym, ap, subst, ◌∙◌, if◌then◌else◌, arith}
use Rattle.std.specs.Prelude.{Contains}
use Rattle.std.specs.List.{All, position}
use Rattle.std.proofs.lemmas.Bool.{cases_eq}
use Rattle.std.proofs.lemmas.List.{get_or-set_other, get_or-set_same, length-set}
use Rattle.std.proofs.lemmas.List.Elements.{All-tail, Contains-append_cases}
use Rattle.std.proofs.lemmas.List.Quantifiers.{position-Some}
use Rattle.fx_expr.specs.declared.values.Ty.{Ty}
use Rattle.fx_expr.specs.declared.values.Ty.TheVariants as ty
use Rattle.fx_expr.specs.declared.values.Value.{Value}
use Rattle.fx_expr.specs.declared.values.Value.TheVariants as value
use Rattle.fx_expr.specs.Value.{type_of}
use Rattle.script_lines.specs.EntryReading.{HasEntryRanges}
use Rattle.cell_raster.specs.CellGrid.{max_cells, columns_of, rows_of, grid_of}
use Rattle.fx_geom.specs.declared.shapes.Size.{Size}
use Rattle.layer_tree.specs.declared.layers.Layer.{Layer}
use Rattle.script_lines.specs.declared.command.Action.TheVariants as action
use Rattle.script_lines.specs.declared.command.Command.{Command}
use Rattle.script_lines.specs.declared.command.Command.TheVariants as command
use Rattle.script_lines.specs.declared.entry.Entry.{Entry}
use Rattle.script_lines.specs.declared.entry.Entry.TheVariants as entry
use Rattle.tickers.specs.Running.{AreApart, is_on, is_full, put}
use Rattle.tickers.specs.Tween.{IsInRange, tween_value_of}
use Rattle.tickers.specs.declared.tween.Curve.{Curve}
use Rattle.tickers.specs.declared.tween.Tween.{Tween}
use Rattle.plain_tree.specs.PlainNode.{PlainNode}
use Rattle.build_form.specs.FullBuild.{built}
use Rattle.build_form.specs.WellBuilt.{IsWellBuilt}
use Rattle.template_build.specs.Program.{declarations_of}
use Rattle.session_form.specs.FrameText.{layers_of}
use Rattle.session_form.specs.Framing.{built_of, framed}
use Rattle.session_form.specs.Handlers.{node_in}
use Rattle.session_form.specs.Outcome as outcome
use Rattle.session_form.specs.Seeing.{view_in}
use Rattle.session_form.specs.State.{SessionState}
use Rattle.session_form.specs.Step.{step}
use Rattle.session_form.specs.declared.refusal.Refusal.{Refusal}
use Rattle.session_form.proofs.TreeLemmas.{Head, heads}
use Rattle.live_session.specs.Cells.{drawn, cells_by, cell_of}
use Rattle.live_session.specs.EntryStep.{framed_by, frame_entry, command_step, entry_step}
use Rattle.live_session.specs.Fields.{field_at, field_in}
use Rattle.live_session.specs.Focus.{order_in, is_in, focused, pressed}
use Rattle.live_session.specs.RunState.{RunState, Came, went, with_session, state_after}
use Rattle.live_session.specs.RunState as came
use Rattle.live_session.specs.Tweens.{set_number, set_at, started_by, with_values, stays, kept_by, tweens_kept}
use Rattle.live_session.specs.declared.refusal.LineRefusal.TheVariants as line_refusal
use Rattle.live_session.proofs.TweenFieldLemmas.{small_end, small_value}
use Rattle.session_laws.specs.Closed.{StaysChanged, StaysFramed}
use Rattle.session_laws.specs.Runs.{after_lines}
use Rattle.session_laws.specs.Sound.{IsSoundState}
use Rattle.session_laws.specs.Tweens.{IsCancelled, IsStarted}
use Rattle.session_laws.proofs.Closed.{after_other}
use Rattle.session_laws.proofs.RunClosed.{after_entry}
use Rattle.session_laws.proofs.Sound.{set_like, handle_like, changed_heads}
use Rattle.session_laws.proofs.FrameFields.{framed_field, still_there, found_there, field_below}
use Rattle.session_laws.specs.Focus.{IsThere}
use Rattle.build_form.specs.Program.{blueprint_of}
use Rattle.build_form.specs.KeptStates.{HadOrIsNew, EachIs}
use Rattle.session_laws.proofs.TweenFrames.{framed_to, frame_tree, field_after}
use Rattle.session_laws.proofs.TweenTypes.{IsNumberAt, MayBeNumber, none_too, number_too, gone_too, accepts, told}
use Rattle.session_laws.proofs.WayLemmas.{first_in, cons_cases, later_in, none_in, one_only}
use Rattle.plain_tree.specs.At.{having_scroll}
use Rattle.frame_session.proofs.LikeLemmas.{like_scroll}

-- ---- of one field

pub record KeepsNumber (k : ℕ) (name : List ℕ) (s : SessionState) : Type 0 where
  pub sound : IsSoundState s
  pub low : k < s.next
  pub number : MayBeNumber (node_in s.tree k) name

-- the node with a number is as it was
pub record KeepsHead (k : ℕ) (h : Option Head) (s : SessionState) : Type 0 where
  pub sound : IsSoundState s
  pub same : heads (node_in s.tree k) ≡ h

module _ (changed : StaysChanged IsSoundState) where
  pub head_changed : (k : ℕ) (h : Option Head) → StaysChanged (KeepsHead k h)
  head_changed k h = record {
    set = λ s number q n d vs more name bytes field v found is at reads p. record {
      sound = changed.set s number q n d vs more name bytes field v found is at reads p.sound;
      same = changed_heads s.tree _ q (set_like s number q n d vs more name bytes field v found is at reads p.sound) k ∙ p.same;
    };
    scroll = λ s q offset p. record { sound = changed.scroll s q offset p.sound; same = changed_heads s.tree (having_scroll offset) q (λ m e. like_scroll offset m) k ∙ p.same };
    handle = λ s number g x dx dy has test p. record {
      sound = changed.handle s number g x dx dy has test p.sound;
      same = changed_heads s.tree _ x.owner (handle_like s number g x dx dy has p.sound) k ∙ p.same;
    };
    root = λ s t b is p. record { sound = changed.root s t b is p.sound; same = p.same };
    resize = λ s view p. record { sound = changed.resize s view p.sound; same = p.same };
    plug = λ s ds name p. record { sound = changed.plug s ds name p.sound; same = p.same };
    pointers = λ s ps p. record { sound = changed.pointers s ps p.sound; same = p.same };
    time = λ s t p. record { sound = changed.time s t p.sound; same = p.same };
  }

  pub number_changed : (k : ℕ) (name : List ℕ) → StaysChanged (KeepsNumber k name)
  number_changed k name = record {
    set = λ s number q n d vs more nm bytes field v found is at reads p. record {
      sound = changed.set s number q n d vs more nm bytes field v found is at reads p.sound;
      low = p.low;
      number = number_too (node_in s.tree k) _ name (changed_heads s.tree _ q (set_like s number q n d vs more nm bytes field v found is at reads p.sound) k) p.number;
    };
    scroll = λ s q offset p. record {
      sound = changed.scroll s q offset p.sound;
      low = p.low;
      number = number_too (node_in s.tree k) _ name (changed_heads s.tree (having_scroll offset) q (λ m e. like_scroll offset m) k) p.number;
    };
    handle = λ s number g x dx dy has test p. record {
      sound = changed.handle s number g x dx dy has test p.sound;
      low = p.low;
      number = number_too (node_in s.tree k) _ name (changed_heads s.tree _ x.owner (handle_like s number g x dx dy has p.sound) k) p.number;
    };
    root = λ s t b is p. record { sound = changed.root s t b is p.sound; low = p.low; number = p.number };
    resize = λ s view p. record { sound = changed.resize s view p.sound; low = p.low; number = p.number };
    plug = λ s ds nm p. record { sound = changed.plug s ds nm p.sound; low = p.low; number = p.number };
    pointers = λ s ps p. record { sound = changed.pointers s ps p.sound; low = p.low; number = p.number };
    time = λ s t p. record { sound = changed.time s t p.sound; low = p.low; number = p.number };
  }

  -- ---- tweens set their fields before a frame

  pub values_keep : (P : SessionState → Type 0) → StaysChanged P → (now : ℕ) (ts : List Tween) (s : SessionState) → P s → P (with_values now ts s)
  values_keep P stay now [] s p = p
  values_keep P stay now (t ∷ ts) s p = values_keep P stay now ts (outcome.state_after s (step s (set_at now t))) (after_other P stay s (set_at now t) (λ e. cc) p)

  accepted_not_refused : (o : outcome.Outcome) (next : SessionState) (why : Refusal) → o ≡ outcome.done next [] → o ≡ outcome.refused why → ⊥
  accepted_not_refused o next why e f = let both : outcome.done next [] ≡ outcome.refused why = sym e ∙ f in cc

  by_number : (now : ℕ) (s : SessionState) (t : Tween) (front : List Tween) (why : Refusal) → IsInRange t → IsSoundState s → MayBeNumber (node_in (with_values now front s).tree t.node) t.field
      → IsSoundState (with_values now front s) → step (with_values now front s) (set_at now t) ≡ outcome.refused why → node_in s.tree t.node ≡ None
  by_number now s t front why in_range sound (inl gone) there refused =
      let here = values_keep (KeepsHead t.node (heads (node_in s.tree t.node))) (head_changed t.node (heads (node_in s.tree t.node))) now front s (record { sound = sound; same = refl }) in
      gone_too (node_in s.tree t.node) (node_in (with_values now front s).tree t.node) here.same gone
  by_number now s t front why in_range sound (inr is) there refused =
      let a = accepts (with_values now front s) t.field (tween_value_of t now) (small_value t now in_range) t.node there is in
      absurd (accepted_not_refused (step (with_values now front s) (set_at now t)) a.0 why a.1 refused)

  -- so it is cancelled only where its node is gone
  pub cancelled_gone : (now : ℕ) (s : SessionState) (tweens : List Tween) (t : Tween) → IsInRange t → KeepsNumber t.node t.field s → IsCancelled now s tweens t → node_in s.tree t.node ≡ None
  cancelled_gone now s tweens t in_range p c =
      let mid = values_keep (KeepsNumber t.node t.field) (number_changed t.node t.field) now c.front s p in
      by_number now s t c.front c.why in_range p.sound mid.number mid.sound c.refused

-- ---- where a tween that runs comes from

set_from : (ts : List Tween) (u t : Tween) (i : ℕ) → i < length ts → Contains (slice_set ts i u) t → Contains ts t ⊎ (t ≡ u)
set_from ts u t i low (k, within, is) =
    let long : length (slice_set ts i u) ≡ length ts = length-set ts i u in
    elim (cases_eq k i) [
      | inl same ↦ inr (sym is ∙ ap (λ n. get_or (slice_set ts i u) n t) same ∙ get_or-set_same ts i u t low)
      | inr other ↦ inl (k, omega (arith, within, long), sym (get_or-set_other ts i k u t other) ∙ is)
    ]

put_from : (p : Tween → Bool) (o : Option ℕ) (ts : List Tween) (u t : Tween) → position p ts ≡ o → Contains (put o u ts) t → Contains ts t ⊎ (t ≡ u)
put_from p None ts u t found h = elim (Contains-append_cases ts (u ∷ []) t h) [ inl old ↦ inl old | inr new ↦ inr (sym (one_only u t new)) ]
put_from p (Some i) ts u t found h = set_from ts u t i (position-Some p ts i t found).0 h

filter_one : (b : Bool) (x : Tween) (xs : List Tween) (t : Tween) → Contains (if b then x ∷ xs else xs) t → (x ≡ t) ⊎ Contains xs t
filter_one true x xs t h = cons_cases x xs t h
filter_one false x xs t h = inr h

filter_from : (test : Tween → Bool) (xs : List Tween) (t : Tween) → Contains (filter test xs) t → Contains xs t
filter_from test [] t h = h
filter_from test (x ∷ xs) t h =
    elim (filter_one (test x) x (filter test xs) t h) [ inl here ↦ subst (Contains (x ∷ xs)) here (first_in x xs) | inr later ↦ later_in x xs t (filter_from test xs t later) ]

kept_one : (b : Bool) (x : Tween) (xs : List Tween) (t : Tween) → Contains (kept_by b x xs) t → (x ≡ t) ⊎ Contains xs t
kept_one true x xs t h = cons_cases x xs t h
kept_one false x xs t h = inr h

kept_from : (now : ℕ) (ts : List Tween) (s : SessionState) (t : Tween) → Contains (tweens_kept now s ts) t → Contains ts t
kept_from now [] s t h = h
kept_from now (u ∷ ts) s t h =
    let o = step s (set_at now u) in
    let next = outcome.state_after s o in
    elim (kept_one (stays o) u (tweens_kept now next ts) t h) [ inl here ↦ subst (Contains (u ∷ ts)) here (first_in u ts) | inr later ↦ later_in u ts t (kept_from now ts next t later) ]

framed_from : (o : outcome.Outcome) (r : RunState) (t : Tween) → Contains (state_after r (framed_by o r.session.time (tweens_kept r.session.time r.session r.tweens) r)).tweens t → Contains r.tweens t
framed_from (outcome.done s text) r t h =
    kept_from r.session.time r.tweens r.session t (filter_from (λ u. nat_lt r.session.time (u.start + u.ms)) (tweens_kept r.session.time r.session r.tweens) t h)
framed_from (outcome.refused why) r t h = h
framed_from (outcome.faulted fault) r t h = h

session_from : (o : outcome.Outcome) (r : RunState) (t : Tween) → Contains (state_after r (with_session o r)).tweens t → Contains r.tweens t
session_from (outcome.done s text) r t h = h
session_from (outcome.refused why) r t h = h
session_from (outcome.faulted fault) r t h = h

abbrev From : RunState → Tween → Came → Type 0
From r t c = Contains (state_after r c).tweens t → Contains r.tweens t

either_from : (b : Bool) (r : RunState) (t : Tween) (x y : Came) → From r t x → From r t y → From r t (if b then x else y)
either_from true r t x y h k = h
either_from false r t x y h k = k

started_from : (o : outcome.Outcome) (u : Tween) (r : RunState) (t : Tween) → Contains (state_after r (started_by o u r)).tweens t
    → Contains r.tweens t ⊎ ((t ≡ u) × (s : SessionState) × (text : List ℕ) × (o ≡ outcome.done s text))
started_from (outcome.done s text) u r t h =
    elim (put_from (is_on u.node u.field) (position (is_on u.node u.field) r.tweens) r.tweens u t refl h) [ inl old ↦ inl old | inr new ↦ inr (new, s, text, refl) ]
started_from (outcome.refused why) u r t h = inl h
started_from (outcome.faulted fault) u r t h = inl h

tween_from : (b : Bool) (o : outcome.Outcome) (u : Tween) (r : RunState) (t : Tween)
    → Contains (state_after r (if b then came.refused line_refusal.TooManyTweens else started_by o u r)).tweens t
    → Contains r.tweens t ⊎ ((t ≡ u) × (s : SessionState) × (text : List ℕ) × (o ≡ outcome.done s text))
tween_from true o u r t h = inl h
tween_from false o u r t h = started_from o u r t h

presses_from : (focus : Option ℕ) (r : RunState) (t : Tween) → From r t (pressed focus r)
presses_from None r t h = h
presses_from (Some number) r t h = session_from (step r.session (command.Act number action.Tap)) r t h

draws_from : (root : Option Layer) (view : Option Size) (cell : Size) (r : RunState) (t : Tween) → From r t (cells_by root view cell r)
draws_from None view cell r t h = h
draws_from (Some root) None cell r t h = h
draws_from (Some root) (Some view) cell r t h =
    either_from (nat_le (columns_of view cell * rows_of view cell) max_cells) r t (drawn (grid_of root view cell) r) (came.refused line_refusal.TooManyCells) (λ x. x) (λ x. x) h

commands_from : (r : RunState) (k : Command) (t : Tween) → From r t (command_step r k)
commands_from r command.Frame t h = framed_from (step (with_values r.session.time r.tweens r.session) command.Frame) r t h
commands_from r (command.At time) t h = session_from (step r.session (command.At time)) r t h
commands_from r (command.Set node field value) t h = session_from (step r.session (command.Set node field value)) r t h
commands_from r (command.Root json) t h = session_from (step r.session (command.Root json)) r t h
commands_from r (command.Resize w k) t h = session_from (step r.session (command.Resize w k)) r t h
commands_from r (command.Scroll node by) t h = session_from (step r.session (command.Scroll node by)) r t h
commands_from r (command.Down pointer x y) t h = session_from (step r.session (command.Down pointer x y)) r t h
commands_from r (command.Move pointer x y) t h = session_from (step r.session (command.Move pointer x y)) r t h
commands_from r (command.Up pointer) t h = session_from (step r.session (command.Up pointer)) r t h
commands_from r (command.Cancel pointer) t h = session_from (step r.session (command.Cancel pointer)) r t h
commands_from r (command.Hit x y) t h = session_from (step r.session (command.Hit x y)) r t h
commands_from r command.Semantics t h = session_from (step r.session command.Semantics) r t h
commands_from r (command.Act node what) t h = session_from (step r.session (command.Act node what)) r t h
commands_from r (command.Delegate name field n) t h = session_from (step r.session (command.Delegate name field n)) r t h
commands_from r (command.Unplug name) t h = session_from (step r.session (command.Unplug name)) r t h
commands_from r command.States t h = session_from (step r.session command.States) r t h

pub back : (r : RunState) (e : Entry) (t : Tween) → Contains (state_after r (entry_step r e)).tweens t → Contains r.tweens t ⊎ IsStarted r e t
back r (entry.Line k) t h = inl (commands_from r k t h)
back r (entry.Tween node field from to ms curve) t h =
    let u : Tween = record { node = node; field = field; from = from; to = to; start = r.session.time; ms = ms; curve = curve } in
    tween_from (is_full r.tweens node field) (step r.session (set_number node field from)) u r t h
back r entry.FocusNext t h = inl h
back r entry.FocusPrev t h = inl h
back r (entry.FocusOn node) t h =
    inl (either_from (is_in (order_in r.session.shown) node) r t (focused (Some node) r) (came.refused line_refusal.NotFocusable) (λ x. x) (λ x. x) h)
back r entry.FocusNone t h = inl h
back r entry.Press t h = inl (presses_from r.focus r t h)
back r entry.Cells t h = inl (draws_from (option_map (layers_of (cell_of r.session)) r.session.shown) (view_in r.session.shown) (cell_of r.session) r t h)

-- ---- a frame

-- what is known of each build
abbrev pub BuildFacts : Type 0
BuildFacts = (s : SessionState) (tree : PlainNode) (next : ℕ) → IsSoundState s → built_of s ≡ built tree next
    → (s.next ≤ next) × IsWellBuilt (declarations_of s.program) tree × EachIs (HadOrIsNew (blueprint_of s.program) s.tree s.next) tree

no_node : (o : Option PlainNode) (m : PlainNode) → o ≡ None → o ≡ Some m → ⊥
no_node o m e f = let both : None ≡ Some m = sym e ∙ f in cc

module _ (changed : StaysChanged IsSoundState) (framing : StaysFramed IsSoundState) (facts : BuildFacts) where
  by_there : (s : SessionState) (tree : PlainNode) (next k : ℕ) (name : List ℕ) → built_of s ≡ built tree next → KeepsNumber k name s → (o : Option PlainNode)
      → node_in (framed s tree next).tree k ≡ o → MayBeNumber o name
  by_there s tree next k name is p None e = inl refl
  by_there s tree next k name is p (Some m) e =
      let f = facts s tree next p.sound is in
      let there : IsThere (framed s tree next).tree k = found_there k _ m e in
      let was = still_there s tree next k f.2 p.low there in
      let same = framed_field s tree next k name p.sound f.1 f.2 p.low there in
      elim p.number [
        | inl gone ↦ absurd (no_node (node_in s.tree k) was.0 gone was.1)
        | inr is_number ↦ inr (ap (λ x. option_map type_of (field_at x name)) (sym e) ∙ ap (option_map type_of) same ∙ is_number)
      ]

  pub number_framed : (k : ℕ) (name : List ℕ) → StaysFramed (KeepsNumber k name)
  number_framed k name s tree next is p =
      let f = facts s tree next p.sound is in
      let grows = f.0 in
      let low = p.low in
      record { sound = framing s tree next is p.sound; low = omega arith; number = by_there s tree next k name is p (node_in (framed s tree next).tree k) refl }

  -- ---- each tween of a run

  abbrev pub AllKeep : RunState → Type 0
  AllKeep r = (t : Tween) → Contains r.tweens t → IsInRange t × KeepsNumber t.node t.field r.session

  some_value : (o : Option Value) (t : Ty) → option_map type_of o ≡ Some t → (v : Value) × (o ≡ Some v)
  some_value None t e = cc
  some_value (Some v) t e = (v, refl)

  new_keeps : (r : RunState) (node : ℕ) (field : List ℕ) (from to : ℤ) (ms : ℕ) (curve : Curve) (s : SessionState) (text : List ℕ) → HasEntryRanges (entry.Tween node field from to ms curve)
      → IsSoundState r.session → step r.session (set_number node field from) ≡ outcome.done s text → KeepsNumber node field r.session
  new_keeps r node field from to ms curve s text ranges sound done =
      let number = told r.session field from (small_end from ranges.1) node s text sound done in
      let value = some_value (field_in r.session node field) ty.Int number in
      record { sound = sound; low = field_below r.session node field value.0 sound.numbers value.1; number = inr number }

  in_range : (r : RunState) (node : ℕ) (field : List ℕ) (from to : ℤ) (ms : ℕ) (curve : Curve) → HasEntryRanges (entry.Tween node field from to ms curve)
      → IsInRange (record { node = node; field = field; from = from; to = to; start = r.session.time; ms = ms; curve = curve })
  in_range r node field from to ms curve ranges = record { from = ranges.1; to = ranges.2; some = ranges.3; short = ranges.4 }

  by_origin : (r : RunState) (e : Entry) (t : Tween) → HasEntryRanges e → IsSoundState r.session → AllKeep r → Contains r.tweens t ⊎ IsStarted r e t → IsInRange t × KeepsNumber t.node t.field r.session
  by_origin r e t ranges sound all (inl old) = all t old
  by_origin r (entry.Tween node field from to ms curve) t ranges sound all (inr new) =
      let u : Tween = record { node = node; field = field; from = from; to = to; start = r.session.time; ms = ms; curve = curve } in
      subst (λ (x : Tween). IsInRange x × KeepsNumber x.node x.field r.session) (sym new.0) (in_range r node field from to ms curve ranges, new_keeps r node field from to ms curve new.1 new.2 ranges sound new.3)
  by_origin r (entry.Line k) t ranges sound all (inr new) = absurd new
  by_origin r entry.FocusNext t ranges sound all (inr new) = absurd new
  by_origin r entry.FocusPrev t ranges sound all (inr new) = absurd new
  by_origin r (entry.FocusOn node) t ranges sound all (inr new) = absurd new
  by_origin r entry.FocusNone t ranges sound all (inr new) = absurd new
  by_origin r entry.Press t ranges sound all (inr new) = absurd new
  by_origin r entry.Cells t ranges sound all (inr new) = absurd new

  pub entry_keeps : (r : RunState) (e : Entry) → HasEntryRanges e → IsSoundState r.session → AllKeep r → AllKeep (state_after r (entry_step r e))
  entry_keeps r e ranges sound all t there =
      let was = by_origin r e t ranges sound all (back r e t there) in
      (was.0, after_entry (KeepsNumber t.node t.field) (number_changed changed t.node t.field) (number_framed t.node t.field) r e was.1)

  pub lines_keep : (es : List Entry) (r : RunState) → All HasEntryRanges es → IsSoundState r.session → AllKeep r → AllKeep (after_lines r es)
  lines_keep [] r ranges sound all = all
  lines_keep (e ∷ es) r ranges sound all =
      let first = ranges 0 e (omega arith) in
      lines_keep es (state_after r (entry_step r e)) (All-tail HasEntryRanges e es ranges) (after_entry IsSoundState changed framing r e sound) (entry_keeps r e first sound all)

  -- ---- so a frame shows it

  split : (xs : List Tween) (x : Tween) → Contains xs x → (front : List Tween) × (back : List Tween) × (xs ≡ front ++ x ∷ back)
  split [] x h = absurd (none_in x h)
  split (y ∷ xs) x h =
      elim (cons_cases y xs x h) [
        | inl here ↦ ([], xs, ap (λ z. z ∷ xs) here)
        | inr later ↦ (let more = split xs x later in (y ∷ more.0, more.1, ap (λ l. y ∷ l) more.2))
      ]

  -- a node that is there once tweens were set was there before, and after some of them
  gone_then : (now : ℕ) (ts us : List Tween) (s : SessionState) (k : ℕ) (m : PlainNode) → IsSoundState s → node_in (with_values now ts s).tree k ≡ Some m
      → node_in (with_values now us s).tree k ≡ None → ⊥
  gone_then now ts us s k m sound there gone =
      let h = heads (node_in s.tree k) in
      let first = values_keep changed (KeepsHead k h) (head_changed changed k h) now us s (record { sound = sound; same = refl }) in
      let all = values_keep changed (KeepsHead k h) (head_changed changed k h) now ts s (record { sound = sound; same = refl }) in
      let none = gone_too (node_in s.tree k) (node_in (with_values now us s).tree k) first.same gone in
      no_node (node_in (with_values now ts s).tree k) m (none_too (node_in s.tree k) (node_in (with_values now ts s).tree k) all.same none) there

  -- what the law of running tweens says
  abbrev pub KeepTime : Type 0
  KeepTime = (r : RunState) (next : SessionState) (front back : List Tween) (t : Tween) (text : List ℕ) (old : Value) → AreApart r.tweens
      → r.tweens ≡ front ++ t ∷ back → IsInRange t → field_in r.session t.node t.field ≡ Some old
      → step (with_values r.session.time front r.session) (set_at r.session.time t) ≡ outcome.done next text
      → field_in (with_values r.session.time r.tweens r.session) t.node t.field ≡ Some (value.Int (tween_value_of t r.session.time))

  set_before : KeepTime → (r : RunState) (t : Tween) (m : PlainNode) → AreApart r.tweens → IsInRange t → KeepsNumber t.node t.field r.session → Contains r.tweens t
      → node_in (with_values r.session.time r.tweens r.session).tree t.node ≡ Some m
      → field_in (with_values r.session.time r.tweens r.session) t.node t.field ≡ Some (value.Int (tween_value_of t r.session.time))
  set_before keep r t m apart in_range p there found =
      let now = r.session.time in
      let parts = split r.tweens t there in
      let mid = with_values now parts.0 r.session in
      let q = values_keep changed (KeepsNumber t.node t.field) (number_changed changed t.node t.field) now parts.0 r.session p in
      let number : IsNumberAt (node_in mid.tree t.node) t.field = elim q.number [ inl gone ↦ absurd (gone_then now r.tweens parts.0 r.session t.node m p.sound found gone) | inr is ↦ is ] in
      let before : IsNumberAt (node_in r.session.tree t.node) t.field = elim p.number [ inl gone ↦ absurd (gone_then now r.tweens [] r.session t.node m p.sound found gone) | inr is ↦ is ] in
      let old = some_value (field_in r.session t.node t.field) ty.Int before in
      let set = accepts mid t.field (tween_value_of t now) (small_value t now in_range) t.node q.sound number in
      keep r set.0 parts.0 parts.1 t [] old.0 apart parts.2 in_range old.1 set.1

  pub shows_value : KeepTime → (r next : RunState) (text : List ℕ) (t : Tween) → AreApart r.tweens → AllKeep r → Contains r.tweens t → frame_entry r ≡ went next text
      → IsThere next.session.tree t.node → field_in next.session t.node t.field ≡ Some (value.Int (tween_value_of t r.session.time))
  shows_value keep r next text t apart all there is stays =
      let now = r.session.time in
      let s = with_values now r.tweens r.session in
      let p = all t there in
      let ps = values_keep changed (KeepsNumber t.node t.field) (number_changed changed t.node t.field) now r.tweens r.session p.1 in
      let f = framed_to r next text is in
      let known = facts s f.tree f.free ps.sound f.made in
      let same = frame_tree s next.session f in
      let was = still_there s f.tree f.free t.node known.2 ps.low (subst (λ o. IsThere o t.node) same stays) in
      let held = set_before keep r t was.0 apart p.0 p.1 there was.1 in
      field_after s next.session t.node t.field (value.Int (tween_value_of t now)) ps.sound f known.1 known.2 held stays
