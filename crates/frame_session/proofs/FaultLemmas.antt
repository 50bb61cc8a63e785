-- Only a frame ends with a fault.
use Rattle.std.proofs.Common.{◌≡◌, ℕ, Bool, true, false, Option, Some, None, Result, Ok, Err, IfOk, OnOk, List, [], length, nat_lt, nat_le, refl, ◌∙◌, ap, if◌then◌else◌}
use Rattle.program_form.specs.Template.{PlainTemplate}
use Rattle.program_read.specs.Reading.{Unread, read_as}
use Rattle.program_read.specs.TemplateWalk.{template_of}
use Rattle.program_check.specs.Body.{PlainBody}
use Rattle.program_check.specs.ProgramCheck.{CheckedAt, checked_widget}
use Rattle.gesture_arena.specs.Moment.{move, up, cancel}
use Rattle.gesture_arena.specs.Pointers.{one_gets, comes_due, is_down}
use Rattle.screen_form.specs.Acts.{acted}
use Rattle.screen_form.specs.declared.act_fault.ActFault.{ActFault}
use Rattle.screen_form.specs.declared.act_fault.ActFault.TheVariants as act_fault
use Rattle.screen_form.specs.Sem.{Sem}
use Rattle.script_lines.specs.declared.command.Action.{Action}
use Rattle.script_lines.specs.declared.command.Command.{Command}
use Rattle.script_lines.specs.declared.command.Command.TheVariants as command
use Rattle.session_form.specs.Changing.{root_checked, root_read, root_line}
use Rattle.session_form.specs.FaultText.{fault_text}
use Rattle.session_form.specs.EventText.{events_text}
use Rattle.session_form.specs.Gestures.{events_given, advanced, pointer_limit, members_at, goes_down, goes_on, goes_away, act_by, act_in}
use Rattle.session_form.specs.Outcome.{Outcome, done, refused, faulted, text_of, end_of}
use Rattle.session_form.specs.Seeing.{point, semantics_in}
use Rattle.session_form.specs.State.{SessionState}
use Rattle.session_form.specs.Step.{step, frames_of}
use Rattle.session_form.specs.declared.refusal.Refusal.TheVariants.{TimeGoesBack, PointerIsDown, PointerIsUp, TooManyPointers}
use Rattle.build_form.specs.Step.{Fault, repeated_sibling_key, repeated_global_key, tree_too_large, output_too_large}
use Rattle.session_form.proofs.QuietLemmas.{set_quiet, scroll_quiet, resize_quiet, delegate_quiet, unplug_quiet}
use Rattle.std.specs.declared.alloc.AllocError.{AllocError}
use Rattle.session_form.specs.declared.line_end.LineEnd.{LineEnd}
use Rattle.frame_session.specs.Ending.{is_fault}

abbrev NoFault : Outcome → Type 0
NoFault o = is_fault (end_of o) ≡ false

text_there : (f : Fault) → fault_text f ≡ [] → ⊥
text_there (repeated_sibling_key k) e = cc
text_there (repeated_global_key v) e = cc
text_there tree_too_large e = cc
text_there output_too_large e = cc

-- what prints nothing is no fault
quiet_end : (o : Outcome) → text_of o ≡ [] → NoFault o
quiet_end (done s text) e = refl
quiet_end (refused why) e = refl
quiet_end (faulted f) e = absurd (text_there f e)

by_test : (b : Bool) (x y : Outcome) → NoFault x → NoFault y → NoFault (if b then x else y)
by_test true x y h k = h
by_test false x y h k = k

checked_end : (r : CheckedAt PlainBody) (s : SessionState) → NoFault (root_checked r s)
checked_end (Err bad) s = refl
checked_end (Ok b) s = refl

read_end : (r : Result PlainTemplate Unread) (s : SessionState) → NoFault (root_read r s)
read_end (Err why) s = refl
read_end (Ok t) s = checked_end (checked_widget s.program t) s

root_end : (json : List ℕ) (s : SessionState) → NoFault (root_line json s)
unfolding root_line
root_end json s = read_end (read_as (template_of s.program.version) json) s

act_end : (what : Action) (r : Result ℕ ActFault) (s : SessionState) → NoFault (act_by what r s)
act_end what (Err act_fault.NoSemanticsNode) s = refl
act_end what (Err act_fault.NoAction) s = refl
act_end what (Ok detector) s = refl

acts_end : (root : Option Sem) (node : ℕ) (what : Action) (s : SessionState) → NoFault (act_in root node what s)
acts_end None node what s = refl
acts_end (Some root) node what s = act_end what (acted root node what) s

one_zero : ◌≡◌ {A = ℕ} 1 0 → ⊥
one_zero e = cc

pub only_frames_fault : (s : SessionState) (c : Command) → frames_of c ≡ 0 → is_fault (end_of (step s c)) ≡ false
only_frames_fault s command.Frame none = absurd (one_zero none)
only_frames_fault s (command.At time) none =
    by_test (nat_lt time s.time) (refused TimeGoesBack) (done (advanced time s) (events_text (events_given (comes_due time) s))) refl refl
only_frames_fault s (command.Set node field value) none = quiet_end _ (set_quiet node field value s)
only_frames_fault s (command.Root json) none = root_end json s
only_frames_fault s (command.Resize w h) none = quiet_end _ (resize_quiet w h s)
only_frames_fault s (command.Scroll node by) none = quiet_end _ (scroll_quiet node by s)
only_frames_fault s (command.Down pointer x y) none =
    let goes = goes_down pointer (point x y) (members_at s.shown (point x y)) s in
    let full = nat_le pointer_limit (length s.pointers) in
    by_test (is_down pointer s.pointers) (refused PointerIsDown) (if full then refused TooManyPointers else goes) refl (by_test full (refused TooManyPointers) goes refl refl)
only_frames_fault s (command.Move pointer x y) none = by_test (is_down pointer s.pointers) (goes_on (one_gets pointer (move (point x y))) s) (refused PointerIsUp) refl refl
only_frames_fault s (command.Up pointer) none = by_test (is_down pointer s.pointers) (goes_away pointer (one_gets pointer up) s) (refused PointerIsUp) refl refl
only_frames_fault s (command.Cancel pointer) none = by_test (is_down pointer s.pointers) (goes_away pointer (one_gets pointer cancel) s) (refused PointerIsUp) refl refl
only_frames_fault s (command.Hit x y) none = refl
only_frames_fault s command.Semantics none = refl
only_frames_fault s (command.Act node action) none = acts_end (semantics_in s.shown) node action s
only_frames_fault s (command.Delegate name field n) none = quiet_end _ (delegate_quiet name field n s)
only_frames_fault s (command.Unplug name) none = quiet_end _ (unplug_quiet name s)
only_frames_fault s command.States none = refl

-- ---- of a session, which may be spent

pub faultless_by : (r : Result LineEnd AllocError) (spent : Bool) → (spent ≡ true → OnOk r ⊥) → (spent ≡ false → IfOk r (λ end. is_fault end ≡ false)) → IfOk r (λ end. is_fault end ≡ false)
faultless_by (Ok end) true h k = absurd (h refl)
faultless_by (Ok end) false h k = k refl
faultless_by (Err short) spent h k = tt

pub end_faultless : (r : Result LineEnd AllocError) (s : SessionState) (c : Command) → frames_of c ≡ 0 → IfOk r (λ end. end ≡ end_of (step s c)) → IfOk r (λ end. is_fault end ≡ false)
end_faultless (Ok end) s c none e = ap is_fault e ∙ only_frames_fault s c none
end_faultless (Err short) s c none e = tt
