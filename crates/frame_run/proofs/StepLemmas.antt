-- Where a line leaves a script, by how it ended.
use Rattle.std.proofs.Common.{◌≡◌, ℕ, Bool, true, List, ◌++◌, Option, None, Result, IfOk, OnOk, refl, sym, subst}
use Rattle.std.specs.declared.alloc.AllocError.{AllocError}
use Rattle.live_session.specs.LiveStands.{LiveLands, end_of}
use Rattle.live_session.specs.RunState.{RunState, Came, went, refused, faulted}
use Rattle.live_session.specs.declared.refusal.LineRefusal.{LineRefusal}
use Rattle.frame_run.specs.Job.{ScriptLands}
use Rattle.frame_run.specs.Lines.{trimmed}
use Rattle.frame_run.specs.Script.{asked_of}
use Rattle.frame_run.specs.Text.{stopped, stepped, after_asked, asked_text, after_script_line, script_text}
use Rattle.live_session.specs.declared.live.Ended.TheVariants as ended
use Rattle.frame_run.specs.declared.stage.Script.{Script}
use Rattle.frame_run.specs.declared.script.Asked.{Asked}
use Rattle.frame_run.specs.declared.stage.RunStop.{RunStop}
use Rattle.frame_run.specs.declared.stage.RunStop.TheVariants as stop
use Rattle.delegates.specs.Table.{Means}

pub lands_done : {V : Type 0} {D : V → Type 0} (script : Script V D) (meaning : Means D) (s : RunState) (lines : ℕ) (some : Bool) (o : Came)
    → ended.Done ≡ end_of o → LiveLands script.live meaning s o → script.lines ≡ lines → script.some_refused ≡ some
    → ScriptLands None script meaning (stepped o s lines some)
lands_done script meaning s lines some (went next text) e held n r = (held, n, r)
lands_done script meaning s lines some (refused why) e held n r = cc
lands_done script meaning s lines some (faulted fault) e held n r = cc

pub lands_refused : {V : Type 0} {D : V → Type 0} (script : Script V D) (meaning : Means D) (s : RunState) (lines : ℕ) (some : Bool) (why : LineRefusal) (o : Came)
    → ended.Refused why ≡ end_of o → LiveLands script.live meaning s o → script.lines ≡ lines → script.some_refused ≡ true
    → ScriptLands None script meaning (stepped o s lines some)
lands_refused script meaning s lines some why (went next text) e held n r = cc
lands_refused script meaning s lines some why (refused other) e held n r = (held, n, r)
lands_refused script meaning s lines some why (faulted fault) e held n r = cc

pub lands_fault : (s : RunState) (lines : ℕ) (some : Bool) (o : Came) → ended.Fault ≡ end_of o
    → stepped o s lines some ≡ stopped stop.FrameFault
lands_fault s lines some (went next text) e = cc
lands_fault s lines some (refused why) e = cc
lands_fault s lines some (faulted other) e = refl

-- where a script line leaves a script, by what it asks for
pub lands_asked : {V : Type 0} {D : V → Type 0} (why : Option RunStop) (script : Script V D) (meaning : Means D) (s : RunState) (lines : ℕ) (some : Bool) (raw : List ℕ) (a : Asked)
    → asked_of (trimmed raw) ≡ a → ScriptLands why script meaning (after_asked s lines some a) → ScriptLands why script meaning (after_script_line s lines some raw)
unfolding after_script_line
lands_asked why script meaning s lines some raw a e lands =
    let P : Asked → Type 0 = λ x. ScriptLands why script meaning (after_asked s lines some x) in subst P (sym e) lands

pub lands_entry : {V : Type 0} {D : V → Type 0} (r : Result (Option RunStop) AllocError) (script : Script V D) (meaning : Means D) (s : RunState) (lines : ℕ) (some : Bool) (raw : List ℕ) (a : Asked)
    → asked_of (trimmed raw) ≡ a → IfOk r (λ why. ScriptLands why script meaning (after_asked s lines some a))
    → IfOk r (λ why. ScriptLands why script meaning (after_script_line s lines some raw))
unfolding after_script_line
lands_entry r script meaning s lines some raw a e lands =
    let P : Asked → Type 0 = λ x. IfOk r (λ why. ScriptLands why script meaning (after_asked s lines some x)) in subst P (sym e) lands

-- what a script line prints, by what it asks for
pub text_entry : (r : Result (Option RunStop) AllocError) (s : RunState) (number : ℕ) (raw old new : List ℕ) (a : Asked)
    → asked_of (trimmed raw) ≡ a → OnOk r (new ≡ old ++ asked_text s number a) → OnOk r (new ≡ old ++ script_text s number raw)
unfolding script_text
text_entry r s number raw old new a e text =
    let P : Asked → Type 0 = λ x. OnOk r (new ≡ old ++ asked_text s number x) in subst P (sym e) text
