-- What a run holds, and what it stands for. The lines so far aren't kept, so this is no function but a relation.
use Rattle.std.specs.Prelude.{◌≡◌, ℕ, ◌+◌, Bool, List, [], ◌++◌, length, Option, Some, None}
use Rattle.fx_outside.specs.Told.{HasWritten, HasPart, IsSoFar}
use Rattle.frame_run.specs.Lines.{ended_lines, last_line}
use Rattle.frame_run.specs.InputLine.{HoldsLine}
use Rattle.live_session.specs.LiveStands.{LiveStands, frames_in}
use Rattle.live_session.specs.RunState.{RunState}
use Rattle.frame_run.specs.Text.{At, reading, running, checked, stopped, after_lines, lines_text}
use Rattle.frame_run.specs.Words.{Task, task_with, meant}
use Rattle.frame_run.specs.declared.stage.ProgramPart.{ProgramPart}
use Rattle.frame_run.specs.declared.stage.Script.{Script}
use Rattle.frame_run.specs.declared.stage.RunStop.{RunStop}
use Rattle.frame_run.specs.declared.stage.Stage.{Stage}
use Rattle.frame_run.specs.declared.stage.Stage.TheVariants.{Reading, Running, Checked, Stopped}
use Rattle.frame_run.specs.declared.stage.Job.{Job}
use Rattle.frame_run.specs.declared.status.Status.{Status}
use Rattle.frame_run.specs.declared.status.Status.TheVariants as status
use Rattle.frame_run.specs.declared.input.InputTurn.{InputTurn}
use Rattle.frame_run.specs.declared.input.InputTurn.TheVariants as turn
use Rattle.delegates.specs.Table.{Means}

-- What a delegate means is given as a function, since a run takes delegates of any type.

-- the script stands for a place in the script
abbrev pub ScriptStands : {V : Type 0} {D : V → Type 0} → Script V D → (Means D) → RunState → ℕ → Bool → Type 0
ScriptStands script meaning s lines refused = LiveStands script.live meaning s × (script.lines ≡ lines) × (script.some_refused ≡ refused)

-- the program part stands for a task, for what came before the last line, and for what has come of that line
abbrev pub PartStands : {V : Type 0} {D : V → Type 0} → ProgramPart V D → (Means D) → Task → List ℕ → List ℕ → Type 0
PartStands part meaning task p raw = (task_with part.mode (meant part.delegates.items meaning) ≡ task)
    × (part.bytes.items ≡ p ++ raw) × (part.line_start ≡ length p)

-- the stage stands for a place between two lines, and for what has come of the next line
abbrev pub StageStands : {V : Type 0} {D : V → Type 0} → Stage V D → (Means D) → At → List ℕ → Type 0
StageStands (Reading part) meaning (reading task p) raw = PartStands part meaning task p raw
StageStands (Reading part) meaning (running s lines refused) raw = ⊥
StageStands (Reading part) meaning checked raw = ⊥
StageStands (Reading part) meaning (stopped other) raw = ⊥
StageStands (Running script) meaning (reading task p) raw = ⊥
StageStands (Running script) meaning (running s lines refused) raw = ScriptStands script meaning s lines refused
StageStands (Running script) meaning checked raw = ⊥
StageStands (Running script) meaning (stopped other) raw = ⊥
StageStands Checked meaning (reading task p) raw = ⊥
StageStands Checked meaning (running s lines refused) raw = ⊥
StageStands Checked meaning checked raw = Unit {0}
StageStands Checked meaning (stopped other) raw = ⊥
StageStands (Stopped stop) meaning (reading task p) raw = ⊥
StageStands (Stopped stop) meaning (running s lines refused) raw = ⊥
StageStands (Stopped stop) meaning checked raw = ⊥
StageStands (Stopped stop) meaning (stopped other) raw = stop ≡ other

-- it is in the program part
abbrev pub IsReading : {V : Type 0} {D : V → Type 0} → Stage V D → Type 0
IsReading (Reading part) = Unit {0}
IsReading (Running script) = ⊥
IsReading Checked = ⊥
IsReading (Stopped stop) = ⊥

-- it stands for some place, and for what has come of some line
abbrev pub StageStandsSomewhere : {V : Type 0} {D : V → Type 0} → Stage V D → (Means D) → Type 0
StageStandsSomewhere stage meaning = (place : At) × (raw : List ℕ) × StageStands stage meaning place raw

-- where a script line left the script: it goes on, or something stopped it
abbrev pub ScriptLands : {V : Type 0} {D : V → Type 0} → Option RunStop → Script V D → (Means D) → At → Type 0
ScriptLands None script meaning (running s lines refused) = ScriptStands script meaning s lines refused
ScriptLands None script meaning (reading task p) = ⊥
ScriptLands None script meaning checked = ⊥
ScriptLands None script meaning (stopped other) = ⊥
ScriptLands (Some stop) script meaning place = place ≡ stopped stop

abbrev pub Stands : {V : Type 0} {D : V → Type 0} → Job V D → (Means D) → At → List ℕ → Type 0
Stands job meaning place raw = StageStands job.stage meaning place raw × HoldsLine job.line raw

-- so it is of some place, and of what has come of some line
abbrev pub StandsSomewhere : {V : Type 0} {D : V → Type 0} → Job V D → (Means D) → Type 0
StandsSomewhere job meaning = (place : At) × (raw : List ℕ) × Stands job meaning place raw

-- what stopped a run, if something did
abbrev pub stop_of : At → Option RunStop
stop_of (reading task part) = None
stop_of (running s lines some_refused) = None
stop_of checked = None
stop_of (stopped stop) = Some stop

-- a status that the input itself gives
abbrev pub IsOwn : Status → Type 0
IsOwn status.AllAccepted = Unit {0}
IsOwn status.SomeRefused = Unit {0}
IsOwn status.BadWords = ⊥
IsOwn status.BadProgram = Unit {0}
IsOwn status.FrameFault = Unit {0}
IsOwn status.ReadFault = ⊥
IsOwn status.WriteFault = ⊥
IsOwn status.NoMemory = ⊥
IsOwn status.TooLong = Unit {0}

-- how far the counters of a stage and of a job may have come
abbrev pub counted_stage : {V : Type 0} {D : V → Type 0} → Stage V D → ℕ
counted_stage (Reading part) = 0
counted_stage (Running script) = script.lines + frames_in script.live
counted_stage Checked = 0
counted_stage (Stopped stop) = 0

abbrev pub counted : {V : Type 0} {D : V → Type 0} → Job V D → ℕ
counted job = counted_stage job.stage + job.line.spaces

-- P, where a turn was whole
abbrev pub OnWhole : InputTurn → Type 0 → Type 0
OnWhole turn.Goes P = P
OnWhole (turn.Stops stop) P = P
OnWhole turn.NoMemory P = Unit {0}
OnWhole turn.WriteFault P = Unit {0}

-- where a turn left the run, of which this says where it stands
abbrev pub Lands : InputTurn → (At → List ℕ → Type 0) → At → List ℕ → Type 0
Lands turn.Goes stands place raw = stands place raw
Lands (turn.Stops stop) stands place raw = place ≡ stopped stop
Lands turn.NoMemory stands place raw = Unit {0}
Lands turn.WriteFault stands place raw = Unit {0}

-- a turn that comes to this place and line and prints this text
pub record Took (result : InputTurn) (stands : At → List ℕ → Type 0) (place : At) (raw : List ℕ) (old new : Option (List ℕ)) (text : List ℕ) : Type 0 where
  pub lands : Lands result stands place raw
  pub all : OnWhole result (HasWritten old new text)
  pub part : HasPart old new text

-- a turn that comes to this place and line: of what was gathered before it and the text that it prints, a front is written, and
-- what is gathered after it comes next; where it was whole that is all
pub record Gathers (result : InputTurn) (stands : At → List ℕ → Type 0) (place : At) (raw : List ℕ) (old new : Option (List ℕ)) (before after text : List ℕ) : Type 0 where
  pub lands : Lands result stands place raw
  pub rest : List ℕ
  pub so_far : IsSoFar old new (before ++ text) (after ++ rest)
  pub all : OnWhole result (rest ≡ [])

-- in the midst of a piece: the turn so far, with what is gathered and rest still to come
pub record Midway (stands_at : At → List ℕ → Type 0) (rest : List ℕ) (place : At) (raw : List ℕ) (old new : Option (List ℕ)) (gathered text : List ℕ) : Type 0 where
  pub now : At
  pub raw_now : List ℕ
  pub stands : stands_at now raw_now
  pub comes_to : place ≡ after_lines now (ended_lines raw_now rest)
  pub leaves : raw ≡ last_line raw_now rest
  pub so_far : IsSoFar old new text (gathered ++ lines_text now (ended_lines raw_now rest))

-- what comes of a turn where the sink had a fault after it
abbrev pub at_fault : InputTurn → InputTurn
at_fault turn.Goes = turn.WriteFault
at_fault (turn.Stops stop) = turn.WriteFault
at_fault turn.NoMemory = turn.NoMemory
at_fault turn.WriteFault = turn.WriteFault
