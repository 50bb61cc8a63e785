-- What holds of a state, and stays so at each change that a line makes, holds after each line.
use Rattle.std.proofs.Common.{◌≡◌, ℕ, ◌^◌, ◌==◌, ℤ, pos, ◌+ℤ◌, Bool, true, false, nat_lt, nat_le, Option, Some, None, is_some, option_map, Result, Ok, Err, List, [], ◌∷◌, ◌++◌, length, refl, if◌then◌else◌}
use Rattle.delegates.specs.Answers.{clamped}
use Rattle.delegates.specs.Table.{meaning_of, with_number, unplugged, set_end}
use Rattle.delegates.specs.declared.table.SetEnd.{SetEnd}
use Rattle.delegates.specs.declared.table.SetEnd.TheVariants as ended
use Rattle.expr_check.specs.Names.{place_of}
use Rattle.fx_expr.specs.declared.handlers.Handler.{Handler}
use Rattle.fx_expr.specs.declared.values.Ty.{Ty}
use Rattle.fx_expr.specs.declared.values.Value.{Value}
use Rattle.fx_geom.specs.declared.shapes.Offset.{Offset}
use Rattle.gesture_arena.specs.Moment.{Pointer, move, up, cancel}
use Rattle.gesture_arena.specs.Pointers.{GivenMoments, one_gets, comes_due, after, loses, without, is_down, put_down, down_events}
use Rattle.gesture_arena.specs.declared.gesture.ArenaEvent.{ArenaEvent}
use Rattle.gesture_arena.specs.declared.gesture.ArenaEvent.TheVariants as event
use Rattle.gesture_arena.specs.declared.gesture.Gesture.{Gesture}
use Rattle.gesture_arena.specs.declared.gesture.Gesture.TheVariants as gesture
use Rattle.gesture_arena.specs.declared.gesture.Member.{Member}
use Rattle.plain_tree.specs.At.{changed_at}
use Rattle.plain_tree.specs.PlainNode.{PlainNode}
use Rattle.plain_tree.specs.States.{State, holding, scrolled, own_state}
use Rattle.program_check.specs.Body.{PlainBody}
use Rattle.program_check.specs.ProgramCheck.{CheckedAt, checked_widget}
use Rattle.program_form.specs.Template.{PlainTemplate}
use Rattle.program_read.specs.Reading.{Unread, read_as}
use Rattle.program_read.specs.TemplateWalk.{template_of}
use Rattle.screen_form.specs.Acts.{acted}
use Rattle.screen_form.specs.Sem.{Sem}
use Rattle.screen_form.specs.declared.act_fault.ActFault.{ActFault}
use Rattle.screen_form.specs.declared.act_fault.ActFault.TheVariants as act_fault
use Rattle.script_lines.specs.declared.command.Action.{Action}
use Rattle.script_lines.specs.declared.command.Command.{Command}
use Rattle.script_lines.specs.declared.command.Command.TheVariants as command
use Rattle.widget_model.specs.declared.decl.Decl.{Decl}
use Rattle.build_form.specs.FullBuild.{Built, failed, built}
use Rattle.session_form.specs.Changing.{set_to, set_field, set_state, set_node, scroll_state, scroll_node, root_checked, root_read, root_line, side_of, resized, delegate_ended}
use Rattle.session_form.specs.EventText.{events_text}
use Rattle.session_form.specs.FieldValue.{value_read}
use Rattle.session_form.specs.Framing.{built_of, framed, gone_members, frame_by}
use Rattle.session_form.specs.Gestures.{happened, events_given, given_moment, advanced, pointer_limit, members_at, goes_down, if_down, goes_on, goes_away, event_by, act_by, act_in}
use Rattle.session_form.specs.Handlers.{node_in, handler_at, set_by, handled_by, run_at, after_event, after_events}
use Rattle.session_form.specs.Outcome as outcome
use Rattle.session_form.specs.Program.{scale_of}
use Rattle.session_form.specs.Seeing.{point, semantics_in}
use Rattle.session_form.specs.State.{SessionState, delegate}
use Rattle.session_form.specs.Step.{step}
use Rattle.session_form.specs.declared.refusal.Refusal.TheVariants as refusal
use Rattle.session_laws.specs.Closed.{StaysChanged, StaysFramed}

module _ (P : SessionState → Type 0) (closed : StaysChanged P) where
  abbrev After : SessionState → outcome.Outcome → Type 0
  After s o = P (outcome.state_after s o)

  by_test : (b : Bool) (s : SessionState) (x y : outcome.Outcome) → After s x → After s y → After s (if b then x else y)
  by_test true s x y h k = h
  by_test false s x y h k = k

  -- ---- handlers and events

  by_owner : (b : Bool) (s : SessionState) (number : ℕ) (g : Gesture) (h : Handler) (dx dy : ℤ) → handler_at s.tree number g ≡ Some h → (h.owner == 0) ≡ b → P s
      → P (if b then s else record s { tree = option_map (changed_at (set_by h dx dy) h.owner) s.tree; marks = s.marks ++ h.owner ∷ [] })
  by_owner true s number g h dx dy has test p = p
  by_owner false s number g h dx dy has test p = closed.handle s number g h dx dy has test p

  by_handler : (o : Option Handler) (s : SessionState) (number : ℕ) (g : Gesture) (dx dy : ℤ) → handler_at s.tree number g ≡ o → P s → P (handled_by o dx dy s)
  by_handler None s number g dx dy has p = p
  by_handler (Some h) s number g dx dy has p = by_owner (h.owner == 0) s number g h dx dy has refl p

  runs : (s : SessionState) (number : ℕ) (g : Gesture) (dx dy : ℤ) → P s → P (run_at number g dx dy s)
  runs s number g dx dy p = by_handler (handler_at s.tree number g) s number g dx dy refl p

  one_event : (e : ArenaEvent) (s : SessionState) → P s → P (after_event e s)
  one_event (event.Won pointer node g) s p = p
  one_event (event.Nobody pointer) s p = p
  one_event (event.Tap node) s p = runs s node gesture.Tap (pos 0) (pos 0) p
  one_event (event.Long node) s p = runs s node gesture.Long (pos 0) (pos 0) p
  one_event (event.Start node g) s p = p
  one_event (event.Update node g dx dy) s p = runs s node g dx dy p
  one_event (event.End node g) s p = p

  all_events : (es : List ArenaEvent) (s : SessionState) → P s → P (after_events es s)
  all_events [] s p = p
  all_events (e ∷ es) s p = all_events es (after_event e s) (one_event e s p)

  happens : (events : List ArenaEvent) (ps : List Pointer) (s : SessionState) → P s → P (happened events ps s)
  happens events ps s p = all_events events (record s { pointers = ps }) (closed.pointers s ps p)

  gives_moment : (given : GivenMoments) (s : SessionState) → P s → P (given_moment given s)
  gives_moment given s p = happens (events_given given s) (after given s.pointers) s p

  -- ---- `set` and `scroll`

  set_value : (r : Option Value) (s : SessionState) (number k : ℕ) (n : PlainNode) (d : Decl) (vs : List Value) (more : List State) (name bytes : List ℕ) (field : ℕ × Ty)
      → node_in s.tree number ≡ Some n → own_state n ≡ holding k d vs ∷ more → place_of d.fields name ≡ Some field → value_read field.1 bytes ≡ r → P s → After s (set_to k field.0 r s)
  set_value None s number k n d vs more name bytes field found is at reads p = p
  set_value (Some v) s number k n d vs more name bytes field found is at reads p = closed.set s number k n d vs more name bytes field v found is at reads p

  set_place : (o : Option (ℕ × Ty)) (s : SessionState) (number k : ℕ) (n : PlainNode) (d : Decl) (vs : List Value) (more : List State) (name bytes : List ℕ)
      → node_in s.tree number ≡ Some n → own_state n ≡ holding k d vs ∷ more → place_of d.fields name ≡ o → P s → After s (set_field k o bytes s)
  set_place None s number k n d vs more name bytes found is at p = p
  set_place (Some field) s number k n d vs more name bytes found is at p = set_value (value_read field.1 bytes) s number k n d vs more name bytes field found is at refl p

  set_held : (states : List State) (s : SessionState) (number : ℕ) (n : PlainNode) (name bytes : List ℕ) → node_in s.tree number ≡ Some n → own_state n ≡ states → P s
      → After s (set_state states name bytes s)
  set_held [] s number n name bytes found is p = p
  set_held (scrolled k offset ∷ more) s number n name bytes found is p = p
  set_held (holding k d vs ∷ more) s number n name bytes found is p = set_place (place_of d.fields name) s number k n d vs more name bytes found is refl p

  set_found : (o : Option PlainNode) (s : SessionState) (number : ℕ) (name bytes : List ℕ) → node_in s.tree number ≡ o → P s → After s (set_node o name bytes s)
  set_found None s number name bytes found p = p
  set_found (Some n) s number name bytes found p = set_held (own_state n) s number n name bytes found refl p

  scroll_held : (states : List State) (by : ℤ) (s : SessionState) → P s → After s (scroll_state states by s)
  scroll_held [] by s p = p
  scroll_held (holding k d vs ∷ more) by s p = p
  scroll_held (scrolled k offset ∷ more) by s p = closed.scroll s k (clamped (2 ^ 40) (pos offset +ℤ by)) p

  scroll_found : (o : Option PlainNode) (by : ℤ) (s : SessionState) → P s → After s (scroll_node o by s)
  scroll_found None by s p = p
  scroll_found (Some n) by s p = scroll_held (own_state n) by s p

  -- ---- the root, the view and delegates

  checks : (r : CheckedAt PlainBody) (t : PlainTemplate) (s : SessionState) → checked_widget s.program t ≡ r → P s → After s (root_checked r s)
  checks (Err bad) t s is p = p
  checks (Ok b) t s is p = closed.root s t b is p

  reads_root : (r : Result PlainTemplate Unread) (s : SessionState) → P s → After s (root_read r s)
  reads_root (Err why) s p = p
  reads_root (Ok t) s p = checks (checked_widget s.program t) t s refl p

  roots : (json : List ℕ) (s : SessionState) → P s → After s (root_line json s)
  unfolding root_line
  roots json s p = reads_root (read_as (template_of s.program.version) json) s p

  resizes : (w h : Option ℕ) (s : SessionState) → P s → After s (resized w h s)
  resizes (Some w) (Some h) s p = closed.resize s (record { w = w; h = h }) p
  resizes (Some w) None s p = p
  resizes None h s p = p

  ends_delegate : (e : SetEnd) (name field : List ℕ) (n : ℤ) (s : SessionState) → P s → After s (delegate_ended e name field n s)
  ends_delegate ended.Done name field n s p = closed.plug s (with_number s.delegates name field n) name p
  ends_delegate ended.NoDelegate name field n s p = p
  ends_delegate ended.NoField name field n s p = p

  unplugs : (b : Bool) (name : List ℕ) (s : SessionState) → P s
      → After s (if b then outcome.quietly (record s { delegates = unplugged s.delegates name; touched = s.touched ++ delegate name ∷ [] }) else outcome.refused refusal.NoDelegate)
  unplugs true name s p = closed.plug s (unplugged s.delegates name) name p
  unplugs false name s p = p

  -- ---- pointers and actions

  goes : (pointer : ℕ) (at : Offset) (ms : List Member) (s : SessionState) → P s → After s (goes_down pointer at ms s)
  goes pointer at ms s p = happens (down_events (scale_of s.program) pointer at s.time ms) (s.pointers ++ put_down pointer at s.time ms ∷ []) s p

  downs : (pointer : ℕ) (s : SessionState) (o : outcome.Outcome) → P s → After s o → After s (if_down pointer s o)
  downs pointer s o p h = by_test (is_down pointer s.pointers) s o (outcome.refused refusal.PointerIsUp) h p

  away : (pointer : ℕ) (given : GivenMoments) (s : SessionState) → P s → After s (goes_away pointer given s)
  away pointer given s p = happens (events_given given s) (without pointer s.pointers) s p

  acts : (what : Action) (r : Result ℕ ActFault) (s : SessionState) → P s → After s (act_by what r s)
  acts what (Err act_fault.NoSemanticsNode) s p = p
  acts what (Err act_fault.NoAction) s p = p
  acts what (Ok detector) s p = all_events (event_by what detector ∷ []) s p

  acts_in : (o : Option Sem) (node : ℕ) (what : Action) (s : SessionState) → P s → After s (act_in o node what s)
  acts_in None node what s p = p
  acts_in (Some root) node what s p = acts what (acted root node what) s p

  -- ---- `frame`

  -- what holds of a tree that is built
  abbrev Frames : SessionState → Type 0
  Frames s = (tree : PlainNode) (next : ℕ) → built_of s ≡ built tree next → P s → P (framed s tree next)

  frames : (r : Built) (s : SessionState) → Frames s → built_of s ≡ r → P s → After s (frame_by r s)
  frames (failed fault) s frame is p = p
  frames (built tree next) s frame is p = gives_moment (loses (gone_members (framed s tree next))) (framed s tree next) (frame tree next is p)

  -- ---- each command

  by_kind : (s : SessionState) (k : Command) → (k ≡ command.Frame → Frames s) → P s → P (outcome.state_after s (step s k))
  by_kind s command.Frame frame p = frames (built_of s) s (frame refl) refl p
  by_kind s (command.At time) frame p =
      by_test (nat_lt time s.time) s (outcome.refused refusal.TimeGoesBack) (outcome.done (advanced time s) (events_text (events_given (comes_due time) s))) p
      (closed.time (given_moment (comes_due time) s) time (gives_moment (comes_due time) s p))
  by_kind s (command.Set node field value) frame p = set_found (node_in s.tree node) s node field value refl p
  by_kind s (command.Root json) frame p = roots json s p
  by_kind s (command.Resize w h) frame p = resizes (side_of w) (side_of h) s p
  by_kind s (command.Scroll node by) frame p = scroll_found (node_in s.tree node) by s p
  by_kind s (command.Down pointer x y) frame p =
      let o = goes_down pointer (point x y) (members_at s.shown (point x y)) s in
      by_test (is_down pointer s.pointers) s (outcome.refused refusal.PointerIsDown) (if nat_le pointer_limit (length s.pointers) then outcome.refused refusal.TooManyPointers else o) p
      (by_test (nat_le pointer_limit (length s.pointers)) s (outcome.refused refusal.TooManyPointers) o p (goes pointer (point x y) (members_at s.shown (point x y)) s p))
  by_kind s (command.Move pointer x y) frame p =
      downs pointer s (goes_on (one_gets pointer (move (point x y))) s) p (gives_moment (one_gets pointer (move (point x y))) s p)
  by_kind s (command.Up pointer) frame p = downs pointer s (goes_away pointer (one_gets pointer up) s) p (away pointer (one_gets pointer up) s p)
  by_kind s (command.Cancel pointer) frame p = downs pointer s (goes_away pointer (one_gets pointer cancel) s) p (away pointer (one_gets pointer cancel) s p)
  by_kind s (command.Hit x y) frame p = p
  by_kind s command.Semantics frame p = p
  by_kind s (command.Act node what) frame p = acts_in (semantics_in s.shown) node what s p
  by_kind s (command.Delegate name field n) frame p = ends_delegate (set_end (meaning_of s.delegates name) field) name field n s p
  by_kind s (command.Unplug name) frame p = unplugs (is_some (meaning_of s.delegates name)) name s p
  by_kind s command.States frame p = p

  -- one that is no frame
  pub after_other : (s : SessionState) (k : Command) → (k ≡ command.Frame → ⊥) → P s → P (outcome.state_after s (step s k))
  after_other s k other p = by_kind s k (λ e. absurd (other e)) p

  pub after_command : StaysFramed P → (s : SessionState) (k : Command) → P s → P (outcome.state_after s (step s k))
  after_command framing s k p = by_kind s k (λ e. framing s) p
