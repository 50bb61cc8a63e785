-- Lines that leave the render nodes as they are.
use Rattle.std.proofs.Common.{◌≡◌, ℕ, ℤ, pos, ◌==◌, Bool, true, false, Option, Some, None, option_map, Result, Ok, Err, List, [], ◌∷◌, ◌++◌, refl, sym, ap, ◌∙◌, subst, if◌then◌else◌, nat_lt, nat_le, length, slice_set}
use Rattle.std.proofs.lemmas.Bool.{false≢true}
use Rattle.std.proofs.lemmas.List.{append-nil}
use Rattle.fx_expr.specs.Sets.{fields_after}
use Rattle.fx_expr.specs.declared.handlers.Handler.{Handler}
use Rattle.fx_expr.specs.declared.values.Ty.{Ty}
use Rattle.fx_expr.specs.declared.values.Value.{Value}
use Rattle.fx_geom.specs.declared.shapes.Offset.{Offset}
use Rattle.expr_check.specs.Names.{place_of}
use Rattle.gesture_arena.specs.Moment.{Pointer, move, up, cancel}
use Rattle.gesture_arena.specs.Pointers.{one_gets, comes_due, after, without, is_down, put_down, down_events, loses}
use Rattle.gesture_arena.specs.declared.gesture.ArenaEvent.{ArenaEvent}
use Rattle.gesture_arena.specs.declared.gesture.ArenaEvent.TheVariants as event
use Rattle.gesture_arena.specs.declared.gesture.Gesture.TheVariants as gesture
use Rattle.gesture_arena.specs.declared.gesture.Member.{Member}
use Rattle.plain_tree.specs.At.{node_at, changed_at, having_fields}
use Rattle.plain_tree.specs.PlainNode.{PlainNode, fields_of}
use Rattle.plain_tree.specs.Projection.{render_of}
use Rattle.plain_tree.specs.States.{State, holding, scrolled, own_state}
use Rattle.program_check.specs.Body.{PlainBody}
use Rattle.program_check.specs.ProgramCheck.{CheckedAt, checked_widget}
use Rattle.program_form.specs.Template.{PlainTemplate}
use Rattle.program_read.specs.Reading.{Unread, read_as}
use Rattle.program_read.specs.TemplateWalk.{template_of}
use Rattle.screen_form.specs.Acts.{acted}
use Rattle.screen_form.specs.Sem.{Sem}
use Rattle.screen_form.specs.declared.act_fault.ActFault.{ActFault}
use Rattle.screen_form.specs.declared.act_fault.ActFault.TheVariants as act_fault
use Rattle.script_lines.specs.declared.command.Action.{Action}
use Rattle.script_lines.specs.declared.command.Command.{Command}
use Rattle.script_lines.specs.declared.command.Command.TheVariants as command
use Rattle.session_form.specs.Changing.{set_to, set_field, set_state, set_node, root_checked, root_read, root_line, side_of, resized}
use Rattle.session_form.specs.EventText.{events_text}
use Rattle.session_form.specs.FieldValue.{value_read}
use Rattle.session_form.specs.Framing.{top_of, gone_members, after_drops}
use Rattle.session_form.specs.Gestures.{happened, events_given, advanced, pointer_limit, members_at, goes_down, goes_on, goes_away, event_by, act_by, act_in}
use Rattle.session_form.specs.Handlers.{node_in, set_by, handled_by, handler_at, after_event, after_events}
use Rattle.session_form.specs.Outcome.{Outcome, done, refused, state_after}
use Rattle.session_form.specs.Program.{scale_of}
use Rattle.session_form.specs.Seeing.{point, semantics_in}
use Rattle.session_form.specs.State.{SessionState}
use Rattle.session_form.specs.Step.{step}
use Rattle.session_form.specs.declared.refusal.Refusal.TheVariants.{PointerIsDown, TooManyPointers, TimeGoesBack, PointerIsUp}
use Rattle.session_form.proofs.TreeLemmas.{changed_missing, changed_same}
use Rattle.node_tree.specs.Tree.{Tree}
use Rattle.render_tree.specs.Object.{RenderObject}
use Rattle.work_sets.specs.Before.{Frames}
use Rattle.work_sets.specs.Work.{frames_then, render_root}
use Rattle.counted_work.specs.Known.{WorkIsCaused, touches_nothing}
use Rattle.counted_work.specs.Shows.{PluggedAsBefore}
use Rattle.counted_work.proofs.Known.{Leaves, same_shown_frames, passed, left_alone}

-- ---- what a frame is compared with stays

pub record IsQuiet (s now : SessionState) : Type 0 where
  pub tree : option_map render_root now.tree ≡ option_map render_root s.tree
  pub touched : now.touched ≡ s.touched
  pub shown : now.shown ≡ s.shown
  pub next : now.next ≡ s.next
  pub delegates : now.delegates ≡ s.delegates

pub quiet_leaves : (s now : SessionState) → IsQuiet s now → Leaves [] s now
quiet_leaves s now q = record {
  tree = λ fs. q.tree;
  touched = q.touched ∙ sym (append-nil s.touched);
  shown = q.shown;
  next = q.next;
  plugged = λ plugs h. subst (λ ts. PluggedAsBefore ts plugs now.delegates) (sym q.touched) (subst (PluggedAsBefore s.touched plugs) (sym q.delegates) h);
}

pub quiet_same : (s : SessionState) → IsQuiet s s
quiet_same s = record { tree = refl; touched = refl; shown = refl; next = refl; delegates = refl }

quiet_on : (s mid now : SessionState) → IsQuiet s mid → IsQuiet mid now → IsQuiet s now
quiet_on s mid now a b = record {
  tree = b.tree ∙ a.tree;
  touched = b.touched ∙ a.touched;
  shown = b.shown ∙ a.shown;
  next = b.next ∙ a.next;
  delegates = b.delegates ∙ a.delegates;
}

-- ---- other fields

by_some : {A B : Type 0} (x : Option A) → (x ≡ None → B) → ((a : A) → x ≡ Some a → B) → B
by_some None none some = none refl
by_some (Some a) none some = some a refl

abbrev pub FieldsUnseen : Type 0
FieldsUnseen = (fields : List Value) (wanted : ℕ) (n : PlainNode) → render_of (changed_at (having_fields fields) wanted n) ≡ render_of n

module _ (law : FieldsUnseen) where
  root_stays : (f : PlainNode → List Value) (wanted : ℕ) (t : PlainNode) → render_root (changed_at (λ n. having_fields (f n) n) wanted t) ≡ render_root t
  root_stays f wanted t =
      by_some (node_at wanted t) (λ e. ap render_root (changed_missing (λ n. having_fields (f n) n) wanted t e))
      (λ m e. ap render_root (changed_same (λ n. having_fields (f n) n) (having_fields (f m)) wanted t m e refl) ∙ ap top_of (law (f m) wanted t))

  tree_stays : (f : PlainNode → List Value) (wanted : ℕ) (t : Option PlainNode) → option_map render_root (option_map (changed_at (λ n. having_fields (f n) n) wanted) t) ≡ option_map render_root t
  tree_stays f wanted None = refl
  tree_stays f wanted (Some t) = ap Some (root_stays f wanted t)

  -- ---- `set`

  quiet_set_to : (number place : ℕ) (v : Option Value) (s : SessionState) → IsQuiet s (state_after s (set_to number place v s))
  quiet_set_to number place None s = quiet_same s
  quiet_set_to number place (Some v) s = record { tree = tree_stays (λ n. slice_set (fields_of n) place v) number s.tree; touched = refl; shown = refl; next = refl; delegates = refl }

  quiet_set_field : (number : ℕ) (field : Option (ℕ × Ty)) (bytes : List ℕ) (s : SessionState) → IsQuiet s (state_after s (set_field number field bytes s))
  quiet_set_field number None bytes s = quiet_same s
  quiet_set_field number (Some field) bytes s = quiet_set_to number field.0 (value_read field.1 bytes) s

  quiet_set_state : (states : List State) (name bytes : List ℕ) (s : SessionState) → IsQuiet s (state_after s (set_state states name bytes s))
  quiet_set_state [] name bytes s = quiet_same s
  quiet_set_state (scrolled number scroll ∷ more) name bytes s = quiet_same s
  quiet_set_state (holding number declaration fields ∷ more) name bytes s = quiet_set_field number (place_of declaration.fields name) bytes s

  quiet_set_node : (n : Option PlainNode) (name bytes : List ℕ) (s : SessionState) → IsQuiet s (state_after s (set_node n name bytes s))
  quiet_set_node None name bytes s = quiet_same s
  quiet_set_node (Some n) name bytes s = quiet_set_state (own_state n) name bytes s

  -- ---- what events do

  quiet_handled : (owned : Bool) (h : Handler) (dx dy : ℤ) (s : SessionState)
      → IsQuiet s (if owned then s else record s { tree = option_map (changed_at (set_by h dx dy) h.owner) s.tree; marks = s.marks ++ h.owner ∷ [] })
  quiet_handled true h dx dy s = quiet_same s
  quiet_handled false h dx dy s = record { tree = tree_stays (λ n. fields_after h.sets (fields_of n) dx dy) h.owner s.tree; touched = refl; shown = refl; next = refl; delegates = refl }

  quiet_handled_by : (h : Option Handler) (dx dy : ℤ) (s : SessionState) → IsQuiet s (handled_by h dx dy s)
  quiet_handled_by None dx dy s = quiet_same s
  quiet_handled_by (Some h) dx dy s = quiet_handled (h.owner == 0) h dx dy s

  quiet_event : (e : ArenaEvent) (s : SessionState) → IsQuiet s (after_event e s)
  quiet_event (event.Won pointer node g) s = quiet_same s
  quiet_event (event.Nobody pointer) s = quiet_same s
  quiet_event (event.Tap node) s = quiet_handled_by (handler_at s.tree node gesture.Tap) (pos 0) (pos 0) s
  quiet_event (event.Long node) s = quiet_handled_by (handler_at s.tree node gesture.Long) (pos 0) (pos 0) s
  quiet_event (event.Start node g) s = quiet_same s
  quiet_event (event.Update node g dx dy) s = quiet_handled_by (handler_at s.tree node g) dx dy s
  quiet_event (event.End node g) s = quiet_same s

  quiet_events : (es : List ArenaEvent) (s : SessionState) → IsQuiet s (after_events es s)
  quiet_events [] s = quiet_same s
  quiet_events (e ∷ es) s = quiet_on s (after_event e s) (after_events es (after_event e s)) (quiet_event e s) (quiet_events es (after_event e s))

  quiet_happened : (es : List ArenaEvent) (ps : List Pointer) (s : SessionState) → IsQuiet s (happened es ps s)
  quiet_happened es ps s =
      quiet_on s (record s { pointers = ps }) (happened es ps s) (record { tree = refl; touched = refl; shown = refl; next = refl; delegates = refl })
      (quiet_events es (record s { pointers = ps }))

  pub quiet_drops : (s : SessionState) → IsQuiet s (after_drops s)
  quiet_drops s = quiet_happened (events_given (loses (gone_members s)) s) (after (loses (gone_members s)) s.pointers) s

  -- ---- lines of time, of pointers and of actions

  quiet_at : (early : Bool) (time : ℕ) (s : SessionState) → IsQuiet s (state_after s (if early then refused TimeGoesBack else done (advanced time s) (events_text (events_given (comes_due time) s))))
  quiet_at true time s = quiet_same s
  quiet_at false time s =
      let q = quiet_happened (events_given (comes_due time) s) (after (comes_due time) s.pointers) s in
      record { tree = q.tree; touched = q.touched; shown = q.shown; next = q.next; delegates = q.delegates }

  quiet_down : (down full : Bool) (pointer : ℕ) (at : Offset) (members : List Member) (s : SessionState)
      → IsQuiet s (state_after s (if down then refused PointerIsDown else if full then refused TooManyPointers else goes_down pointer at members s))
  quiet_down true full pointer at members s = quiet_same s
  quiet_down false true pointer at members s = quiet_same s
  quiet_down false false pointer at members s =
      quiet_happened (down_events (scale_of s.program) pointer at s.time members) (s.pointers ++ put_down pointer at s.time members ∷ []) s

  quiet_if_down : (down : Bool) (s : SessionState) (o : Outcome) → IsQuiet s (state_after s o) → IsQuiet s (state_after s (if down then o else refused PointerIsUp))
  quiet_if_down true s o q = q
  quiet_if_down false s o q = quiet_same s

  quiet_act_by : (what : Action) (r : Result ℕ ActFault) (s : SessionState) → IsQuiet s (state_after s (act_by what r s))
  quiet_act_by what (Err act_fault.NoSemanticsNode) s = quiet_same s
  quiet_act_by what (Err act_fault.NoAction) s = quiet_same s
  quiet_act_by what (Ok detector) s = quiet_events (event_by what detector ∷ []) s

  quiet_act_in : (root : Option Sem) (node : ℕ) (what : Action) (s : SessionState) → IsQuiet s (state_after s (act_in root node what s))
  quiet_act_in None node what s = quiet_same s
  quiet_act_in (Some root) node what s = quiet_act_by what (acted root node what) s

  -- ---- `root` and `resize`

  quiet_root_checked : (c : CheckedAt PlainBody) (s : SessionState) → IsQuiet s (state_after s (root_checked c s))
  quiet_root_checked (Err bad) s = quiet_same s
  quiet_root_checked (Ok b) s = record { tree = refl; touched = refl; shown = refl; next = refl; delegates = refl }

  quiet_root_read : (r : Result PlainTemplate Unread) (s : SessionState) → IsQuiet s (state_after s (root_read r s))
  quiet_root_read (Err why) s = quiet_same s
  quiet_root_read (Ok t) s = quiet_root_checked (checked_widget s.program t) s

  quiet_root : (json : List ℕ) (s : SessionState) → IsQuiet s (state_after s (root_line json s))
  unfolding root_line
  quiet_root json s = quiet_root_read (read_as (template_of s.program.version) json) s

  quiet_resized : (w h : Option ℕ) (s : SessionState) → IsQuiet s (state_after s (resized w h s))
  quiet_resized (Some w) (Some h) s = record { tree = refl; touched = refl; shown = refl; next = refl; delegates = refl }
  quiet_resized (Some w) None s = quiet_same s
  quiet_resized None h s = quiet_same s

  -- ---- any line but a frame, and those that touch something

  pub quiet_step : (s : SessionState) (c : Command) → touches_nothing c ≡ true → IsQuiet s (state_after s (step s c))
  quiet_step s command.Frame e = absurd (false≢true e)
  quiet_step s (command.At time) e = quiet_at (nat_lt time s.time) time s
  quiet_step s (command.Set node field value) e = quiet_set_node (node_in s.tree node) field value s
  quiet_step s (command.Root json) e = quiet_root json s
  quiet_step s (command.Resize w h) e = quiet_resized (side_of w) (side_of h) s
  quiet_step s (command.Scroll node by) e = absurd (false≢true e)
  quiet_step s (command.Down pointer x y) e = quiet_down (is_down pointer s.pointers) (nat_le pointer_limit (length s.pointers)) pointer (point x y) (members_at s.shown (point x y)) s
  quiet_step s (command.Move pointer x y) e =
      quiet_if_down (is_down pointer s.pointers) s (goes_on (one_gets pointer (move (point x y))) s)
      (quiet_happened (events_given (one_gets pointer (move (point x y))) s) (after (one_gets pointer (move (point x y))) s.pointers) s)
  quiet_step s (command.Up pointer) e =
      quiet_if_down (is_down pointer s.pointers) s (goes_away pointer (one_gets pointer up) s)
      (quiet_happened (events_given (one_gets pointer up) s) (without pointer s.pointers) s)
  quiet_step s (command.Cancel pointer) e =
      quiet_if_down (is_down pointer s.pointers) s (goes_away pointer (one_gets pointer cancel) s)
      (quiet_happened (events_given (one_gets pointer cancel) s) (without pointer s.pointers) s)
  quiet_step s (command.Hit x y) e = quiet_same s
  quiet_step s command.Semantics e = quiet_same s
  quiet_step s (command.Act node action) e = quiet_act_in (semantics_in s.shown) node action s
  quiet_step s (command.Delegate name field n) e = absurd (false≢true e)
  quiet_step s (command.Unplug name) e = absurd (false≢true e)
  quiet_step s command.States e = quiet_same s

  pub quiet_known : (frames : Frames) (s : SessionState) (c : Command) (t : Tree RenderObject) → touches_nothing c ≡ true → WorkIsCaused frames s t
      → WorkIsCaused (frames_then (state_after s (step s c)).shown frames) (state_after s (step s c)) t
  quiet_known frames s c t quiet h =
      passed frames s (state_after s (step s c)) t t (left_alone frames [] s (state_after s (step s c)) t (quiet_leaves s (state_after s (step s c)) (quiet_step s c quiet))) h

  pub quiet_frames : (frames : Frames) (s : SessionState) (c : Command) (t : Tree RenderObject) → touches_nothing c ≡ true → WorkIsCaused frames s t
      → frames_then (state_after s (step s c)).shown frames ≡ frames
  quiet_frames frames s c t quiet h = same_shown_frames frames s (state_after s (step s c)) t (quiet_step s c quiet).shown h.layouts
