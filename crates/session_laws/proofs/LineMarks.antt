-- What each command that is done marks and touches.
use Rattle.std.proofs.Common.{◌≡◌, ℕ, ℤ, Bool, true, false, nat_lt, nat_le, Option, Some, None, is_some, Result, Ok, Err, List, [], ◌∷◌, ◌++◌, length, refl, sym, ap, subst, ◌∙◌, if◌then◌else◌}
use Rattle.std.specs.Result.{result_ok}
use Rattle.delegates.specs.Table.{meaning_of, unplugged, set_end}
use Rattle.delegates.specs.declared.table.SetEnd.{SetEnd}
use Rattle.delegates.specs.declared.table.SetEnd.TheVariants as ended
use Rattle.expr_check.specs.Names.{place_of}
use Rattle.fx_expr.specs.declared.values.Ty.{Ty}
use Rattle.fx_expr.specs.declared.values.Value.{Value}
use Rattle.gesture_arena.specs.Moment.{Pointer, move, up, cancel}
use Rattle.gesture_arena.specs.Pointers.{one_gets, comes_due, after, loses, without, is_down, put_down, down_events}
use Rattle.gesture_arena.specs.declared.gesture.ArenaEvent.{ArenaEvent}
use Rattle.plain_tree.specs.PlainNode.{PlainNode, number_of}
use Rattle.plain_tree.specs.States.{State, holding, scrolled, own_state}
use Rattle.program_check.specs.Body.{PlainBody}
use Rattle.program_check.specs.ProgramCheck.{CheckedAt, checked_widget}
use Rattle.program_form.specs.Template.{PlainTemplate}
use Rattle.program_read.specs.Reading.{Unread, read_as}
use Rattle.program_read.specs.TemplateWalk.{template_of}
use Rattle.screen_form.specs.Acts.{acted}
use Rattle.screen_form.specs.Sem.{Sem}
use Rattle.screen_form.specs.declared.act_fault.ActFault.{ActFault}
use Rattle.screen_form.specs.declared.act_fault.ActFault.TheVariants as act_fault
use Rattle.script_lines.specs.declared.command.Action.{Action}
use Rattle.script_lines.specs.declared.command.Command.{Command}
use Rattle.script_lines.specs.declared.command.Command.TheVariants as command
use Rattle.build_form.specs.FullBuild.{Built, failed, built}
use Rattle.session_form.specs.Changing.{set_to, set_field, set_state, set_node, scroll_state, scroll_node, root_checked, root_read, root_line, side_of, resized, delegate_ended}
use Rattle.session_form.specs.EventText.{events_text}
use Rattle.session_form.specs.FieldValue.{value_read}
use Rattle.session_form.specs.Framing.{built_of, framed, gone_members, after_drops, drop_events, frame_by}
use Rattle.session_form.specs.Gestures.{happened, events_given, advanced, pointer_limit, members_at, goes_down, goes_on, goes_away, event_by, act_by, act_in}
use Rattle.session_form.specs.Handlers.{node_in}
use Rattle.session_form.specs.Outcome.{Outcome, done, refused, faulted, quietly}
use Rattle.session_form.specs.Program.{scale_of}
use Rattle.session_form.specs.Seeing.{point, semantics_in}
use Rattle.session_form.specs.State.{SessionState, Touched, delegate, viewport}
use Rattle.session_form.specs.Step.{step}
use Rattle.session_form.specs.declared.refusal.Refusal.TheVariants as refusal
use Rattle.session_form.proofs.SetLemmas.{number_found}
use Rattle.session_laws.specs.Marks.{all_marked_by, action_by, action_in, marks_after, touched_after}
use Rattle.session_laws.proofs.OwnStates.{number_held, number_scrolled}
use Rattle.session_laws.proofs.MarkLemmas.{all_quiet, drops_quiet, events_marked}

-- this is marked and touched where a command is done
abbrev Leaves : List ℕ → List Touched → Outcome → Type 0
Leaves ms ts (done next text) = (next.marks ≡ ms) × (next.touched ≡ ts)
Leaves ms ts (refused why) = Unit {0}
Leaves ms ts (faulted fault) = Unit {0}

by_test : (b : Bool) (ms : List ℕ) (ts : List Touched) (x y : Outcome) → Leaves ms ts x → Leaves ms ts y → Leaves ms ts (if b then x else y)
by_test true ms ts x y h k = h
by_test false ms ts x y h k = k

-- ---- events

happened_leaves : (events : List ArenaEvent) (ps : List Pointer) (s : SessionState) (text : List ℕ) → Leaves (s.marks ++ all_marked_by s.tree events) s.touched (done (happened events ps s) text)
happened_leaves events ps s text = let m = events_marked events (record s { pointers = ps }) in (m.marks, m.touched)

-- ---- `set` and `scroll`

found_number : (tree : Option PlainNode) (number : ℕ) (n : PlainNode) → node_in tree number ≡ Some n → number_of n ≡ number
found_number None number n e = cc
found_number (Some root) number n e = number_found number root n e

set_value : (r : Option Value) (s : SessionState) (number k place : ℕ) → k ≡ number → Leaves (s.marks ++ number ∷ []) s.touched (set_to k place r s)
set_value None s number k place same = tt
set_value (Some v) s number k place same = (ap (λ n. s.marks ++ n ∷ []) same, refl)

set_place : (o : Option (ℕ × Ty)) (s : SessionState) (number k : ℕ) (bytes : List ℕ) → k ≡ number → Leaves (s.marks ++ number ∷ []) s.touched (set_field k o bytes s)
set_place None s number k bytes same = tt
set_place (Some field) s number k bytes same = set_value (value_read field.1 bytes) s number k field.0 same

set_held : (states : List State) (s : SessionState) (number : ℕ) (n : PlainNode) (name bytes : List ℕ) → number_of n ≡ number → own_state n ≡ states
    → Leaves (s.marks ++ number ∷ []) s.touched (set_state states name bytes s)
set_held [] s number n name bytes found is = tt
set_held (scrolled k offset ∷ more) s number n name bytes found is = tt
set_held (holding k d vs ∷ more) s number n name bytes found is =
    set_place (place_of d.fields name) s number k bytes (sym (number_held n k d vs more is) ∙ found)

set_found : (o : Option PlainNode) (s : SessionState) (number : ℕ) (name bytes : List ℕ) → node_in s.tree number ≡ o → Leaves (s.marks ++ number ∷ []) s.touched (set_node o name bytes s)
set_found None s number name bytes found = tt
set_found (Some n) s number name bytes found = set_held (own_state n) s number n name bytes (found_number s.tree number n found) refl

scroll_held : (states : List State) (by : ℤ) (s : SessionState) (number : ℕ) (n : PlainNode) → number_of n ≡ number → own_state n ≡ states
    → Leaves s.marks (s.touched ++ viewport number ∷ []) (scroll_state states by s)
scroll_held [] by s number n found is = tt
scroll_held (holding k d vs ∷ more) by s number n found is = tt
scroll_held (scrolled k offset ∷ more) by s number n found is = (refl, ap (λ x. s.touched ++ viewport x ∷ []) (sym (number_scrolled n k offset more is) ∙ found))

scroll_found : (o : Option PlainNode) (by : ℤ) (s : SessionState) (number : ℕ) → node_in s.tree number ≡ o → Leaves s.marks (s.touched ++ viewport number ∷ []) (scroll_node o by s)
scroll_found None by s number found = tt
scroll_found (Some n) by s number found = scroll_held (own_state n) by s number n (found_number s.tree number n found) refl

-- ---- the root, the view and delegates

checks : (r : CheckedAt PlainBody) (s : SessionState) → Leaves s.marks s.touched (root_checked r s)
checks (Err bad) s = tt
checks (Ok b) s = (refl, refl)

reads_root : (r : Result PlainTemplate Unread) (s : SessionState) → Leaves s.marks s.touched (root_read r s)
reads_root (Err why) s = tt
reads_root (Ok t) s = checks (checked_widget s.program t) s

roots : (json : List ℕ) (s : SessionState) → Leaves s.marks s.touched (root_line json s)
unfolding root_line
roots json s = reads_root (read_as (template_of s.program.version) json) s

resizes : (w h : Option ℕ) (s : SessionState) → Leaves s.marks s.touched (resized w h s)
resizes (Some w) (Some h) s = (refl, refl)
resizes (Some w) None s = tt
resizes None h s = tt

ends_delegate : (e : SetEnd) (name field : List ℕ) (n : ℤ) (s : SessionState) → Leaves s.marks (s.touched ++ delegate name ∷ []) (delegate_ended e name field n s)
ends_delegate ended.Done name field n s = (refl, refl)
ends_delegate ended.NoDelegate name field n s = tt
ends_delegate ended.NoField name field n s = tt

unplugs : (b : Bool) (name : List ℕ) (s : SessionState) → Leaves s.marks (s.touched ++ delegate name ∷ [])
    (if b then quietly (record s { delegates = unplugged s.delegates name; touched = s.touched ++ delegate name ∷ [] }) else refused refusal.NoDelegate)
unplugs true name s = (refl, refl)
unplugs false name s = tt

-- ---- actions

acts : (what : Action) (r : Result ℕ ActFault) (s : SessionState) → Leaves (s.marks ++ all_marked_by s.tree (action_by what (result_ok r))) s.touched (act_by what r s)
acts what (Err act_fault.NoSemanticsNode) s = tt
acts what (Err act_fault.NoAction) s = tt
acts what (Ok detector) s = let m = events_marked (event_by what detector ∷ []) s in (m.marks, m.touched)

acts_in : (o : Option Sem) (node : ℕ) (what : Action) (s : SessionState) → Leaves (s.marks ++ all_marked_by s.tree (action_in o node what)) s.touched (act_in o node what s)
acts_in None node what s = tt
acts_in (Some root) node what s = acts what (acted root node what) s

-- ---- `frame`

pub dropped_same : (s : SessionState) → after_drops s ≡ record s { pointers = after (loses (gone_members s)) s.pointers }
dropped_same s = all_quiet (drop_events s) (record s { pointers = after (loses (gone_members s)) s.pointers }) (drops_quiet (scale_of s.program) (gone_members s) s.pointers)

frames : (r : Built) (s : SessionState) → Leaves [] [] (frame_by r s)
frames (failed fault) s = tt
frames (built tree next) s = let same = dropped_same (framed s tree next) in (ap (λ (x : SessionState). x.marks) same, ap (λ (x : SessionState). x.touched) same)

-- ---- each command

leaves : (s : SessionState) (k : Command) → Leaves (marks_after s k) (touched_after s k) (step s k)
leaves s command.Frame = frames (built_of s) s
leaves s (command.At time) =
    by_test (nat_lt time s.time) _ _ (refused refusal.TimeGoesBack) (done (advanced time s) (events_text (events_given (comes_due time) s))) tt
    (happened_leaves (events_given (comes_due time) s) (after (comes_due time) s.pointers) s [])
leaves s (command.Set node field value) = set_found (node_in s.tree node) s node field value refl
leaves s (command.Root json) = roots json s
leaves s (command.Resize w h) = resizes (side_of w) (side_of h) s
leaves s (command.Scroll node by) = scroll_found (node_in s.tree node) by s node refl
leaves s (command.Down pointer x y) =
    let at = point x y in
    let ms = members_at s.shown at in
    let o = goes_down pointer at ms s in
    by_test (is_down pointer s.pointers) _ _ (refused refusal.PointerIsDown) (if nat_le pointer_limit (length s.pointers) then refused refusal.TooManyPointers else o) tt
    (by_test (nat_le pointer_limit (length s.pointers)) _ _ (refused refusal.TooManyPointers) o tt
    (happened_leaves (down_events (scale_of s.program) pointer at s.time ms) (s.pointers ++ put_down pointer at s.time ms ∷ []) s (events_text (down_events (scale_of s.program) pointer at s.time ms))))
leaves s (command.Move pointer x y) =
    let given = one_gets pointer (move (point x y)) in
    by_test (is_down pointer s.pointers) _ _ (goes_on given s) (refused refusal.PointerIsUp) (happened_leaves (events_given given s) (after given s.pointers) s (events_text (events_given given s))) tt
leaves s (command.Up pointer) =
    let given = one_gets pointer up in
    by_test (is_down pointer s.pointers) _ _ (goes_away pointer given s) (refused refusal.PointerIsUp) (happened_leaves (events_given given s) (without pointer s.pointers) s (events_text (events_given given s))) tt
leaves s (command.Cancel pointer) =
    let given = one_gets pointer cancel in
    by_test (is_down pointer s.pointers) _ _ (goes_away pointer given s) (refused refusal.PointerIsUp) (happened_leaves (events_given given s) (without pointer s.pointers) s (events_text (events_given given s))) tt
leaves s (command.Hit x y) = (refl, refl)
leaves s command.Semantics = (refl, refl)
leaves s (command.Act node what) = acts_in (semantics_in s.shown) node what s
leaves s (command.Delegate name field n) = ends_delegate (set_end (meaning_of s.delegates name) field) name field n s
leaves s (command.Unplug name) = unplugs (is_some (meaning_of s.delegates name)) name s
leaves s command.States = (refl, refl)

pub done_leaves : (s next : SessionState) (k : Command) (text : List ℕ) → step s k ≡ done next text → (next.marks ≡ marks_after s k) × (next.touched ≡ touched_after s k)
done_leaves s next k text is = subst (Leaves (marks_after s k) (touched_after s k)) is (leaves s k)
