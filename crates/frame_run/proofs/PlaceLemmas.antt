-- Where a line that ended, or the last one, leaves a stage.
use Rattle.std.proofs.Common.{◌≡◌, ℕ, ◌+◌, Bool, true, List, [], ◌∷◌, ◌++◌, length, take, Option, Some, ap, sym, subst, refl, ◌∙◌, if◌then◌else◌}
use Rattle.std.proofs.Math.Seq.{take-append_seam}
use Rattle.live_session.specs.LiveStands.{LiveStands}
use Rattle.live_session.specs.RunState.{RunState}
use Rattle.frame_run.specs.Job.{StageStands, ScriptStands, ScriptLands}
use Rattle.frame_run.specs.Lines.{is_mark}
use Rattle.frame_run.specs.Text.{At, reading, running, checked, stopped, begun, after_script_line, script_text, after_line, after_last, line_text, last_text}
use Rattle.frame_run.specs.Words.{Task, task_with, meant}
use Rattle.frame_run.specs.declared.stage.ProgramPart.{ProgramPart}
use Rattle.frame_run.specs.declared.stage.Script.{Script}
use Rattle.frame_run.specs.declared.stage.Stage.{Stage}
use Rattle.frame_run.specs.declared.stage.Stage.TheVariants.{Reading, Running, Stopped}
use Rattle.frame_run.specs.declared.stage.RunStop.{RunStop}
use Rattle.delegates.specs.Table.{Means}

-- a script that stands somewhere stands for some state of a run
pub script_somewhere : {V : Type 0} {D : V → Type 0} (script : Script V D) (meaning : Means D) (place : At) (raw : List ℕ) → StageStands (Running script) meaning place raw
    → (r : RunState) × LiveStands script.live meaning r
script_somewhere script meaning (reading task p) raw stands = absurd stands
script_somewhere script meaning (running s lines some) raw stands = (s, stands.0)
script_somewhere script meaning checked raw stands = absurd stands
script_somewhere script meaning (stopped other) raw stands = absurd stands

-- the line `%%` ended the program part
pub marked : {V : Type 0} {D : V → Type 0} (part : ProgramPart V D) (next : Stage V D) (meaning : Means D) (place : At) (raw program : List ℕ)
    → StageStands (Reading part) meaning place raw → is_mark raw ≡ true → program ≡ take part.line_start part.bytes.items
    → StageStands next meaning (begun (task_with part.mode (meant part.delegates.items meaning)) program) [] → StageStands next meaning (after_line place raw) []
marked part next meaning (reading task p) raw program stands mark is lands =
    let front : program ≡ p = is ∙ ap (λ n. take n part.bytes.items) stands.2 ∙ ap (take (length p)) stands.1 ∙ take-append_seam p raw in
    let P : List ℕ → Type 0 = λ q. StageStands next meaning (begun (task_with part.mode (meant part.delegates.items meaning)) q) [] in
    let Q : Task → Type 0 = λ t. StageStands next meaning (begun t p) [] in
    let R : Bool → Type 0 = λ v. StageStands next meaning (if v then begun task p else reading task (p ++ raw ++ 10 ∷ [])) [] in
    subst R (sym mark) (subst Q stands.0 (subst P front lands))
marked part next meaning (running s lines some) raw program stands mark is lands = absurd stands
marked part next meaning checked raw program stands mark is lands = absurd stands
marked part next meaning (stopped other) raw program stands mark is lands = absurd stands

-- the input ended in the program part
pub ended : {V : Type 0} {D : V → Type 0} (part : ProgramPart V D) (next : Stage V D) (meaning : Means D) (place : At) (raw program : List ℕ)
    → StageStands (Reading part) meaning place raw → program ≡ (if is_mark raw then take part.line_start part.bytes.items else part.bytes.items)
    → StageStands next meaning (begun (task_with part.mode (meant part.delegates.items meaning)) program) [] → StageStands next meaning (after_last place raw) []
ended part next meaning (reading task p) raw program stands is lands =
    let front : take part.line_start part.bytes.items ≡ p = ap (λ n. take n part.bytes.items) stands.2 ∙ ap (take (length p)) stands.1 ∙ take-append_seam p raw in
    let same : program ≡ (if is_mark raw then p else p ++ raw) =
    is ∙ ap (λ q. if is_mark raw then q else part.bytes.items) front ∙ ap (λ q. if is_mark raw then p else q) stands.1 in
    let P : List ℕ → Type 0 = λ q. StageStands next meaning (begun (task_with part.mode (meant part.delegates.items meaning)) q) [] in
    let Q : Task → Type 0 = λ t. StageStands next meaning (begun t (if is_mark raw then p else p ++ raw)) [] in
    subst Q stands.0 (subst P same lands)
ended part next meaning (running s lines some) raw program stands is lands = absurd stands
ended part next meaning checked raw program stands is lands = absurd stands
ended part next meaning (stopped other) raw program stands is lands = absurd stands

-- in a script the last line is taken as any other
pub last_is_line : {V : Type 0} {D : V → Type 0} (script : Script V D) (meaning : Means D) (place : At) (raw : List ℕ)
    → StageStands (Running script) meaning place raw → after_line place raw ≡ after_last place raw
last_is_line script meaning (reading task p) raw stands = absurd stands
last_is_line script meaning (running s lines some) raw stands = refl
last_is_line script meaning checked raw stands = absurd stands
last_is_line script meaning (stopped other) raw stands = absurd stands

pub last_text_is : {V : Type 0} {D : V → Type 0} (script : Script V D) (meaning : Means D) (place : At) (raw : List ℕ)
    → StageStands (Running script) meaning place raw → line_text place raw ≡ last_text place raw
last_text_is script meaning (reading task p) raw stands = absurd stands
last_text_is script meaning (running s lines some) raw stands = refl
last_text_is script meaning checked raw stands = absurd stands
last_text_is script meaning (stopped other) raw stands = absurd stands

-- a script line stopped the run
pub line_stopped : {V : Type 0} {D : V → Type 0} (script next : Script V D) (o : Option RunStop) (stop : RunStop) (meaning : Means D) (place : At) (raw : List ℕ)
    → StageStands (Running script) meaning place raw → o ≡ Some stop
    → ((s : RunState) (lines : ℕ) (some : Bool) → ScriptStands script meaning s lines some → ScriptLands o next meaning (after_script_line s (lines + 1) some raw))
    → StageStands (Stopped stop) meaning (after_line place raw) []
line_stopped script next o stop meaning (reading task p) raw stands is lands = absurd stands
line_stopped script next o stop meaning (running s lines some) raw stands is lands =
    let P : Option RunStop → Type 0 = λ x. ScriptLands x next meaning (after_script_line s (lines + 1) some raw) in
    let there : after_script_line s (lines + 1) some raw ≡ stopped stop = subst P is (lands s lines some stands) in
    let Q : At → Type 0 = λ at. StageStands (Stopped stop) meaning at [] in
    subst Q (sym there) refl
line_stopped script next o stop meaning checked raw stands is lands = absurd stands
line_stopped script next o stop meaning (stopped other) raw stands is lands = absurd stands

pub line_stopped_text : {V : Type 0} {D : V → Type 0} (script : Script V D) (meaning : Means D) (place : At) (raw old new : List ℕ)
    → StageStands (Running script) meaning place raw
    → ((s : RunState) (lines : ℕ) (some : Bool) → ScriptStands script meaning s lines some → new ≡ old ++ script_text s (lines + 1) raw)
    → new ≡ old ++ line_text place raw
line_stopped_text script meaning (reading task p) raw old new stands text = absurd stands
line_stopped_text script meaning (running s lines some) raw old new stands text = text s lines some stands
line_stopped_text script meaning checked raw old new stands text = absurd stands
line_stopped_text script meaning (stopped other) raw old new stands text = absurd stands
