-- What is known of the flags in a run between two bytes of its input, and what the run counted.
use Rattle.std.specs.Prelude.{◌≡◌, ℕ, List, [], take, Option, Some, None}
use Rattle.work_sets.specs.Before.{Frames}
use Rattle.work_sets.specs.Work.{Work}
use Rattle.counted_work.specs.Known.{no_frames}
use Rattle.live_session.specs.Works.{IsLiveCaused}
use Rattle.frame_run.specs.Lines.{ended_lines, last_line}
use Rattle.frame_run.specs.Reads.{HasRun}
use Rattle.frame_run.specs.Status.{OnMemory}
use Rattle.frame_run.specs.Text.{At, reading, running, checked, stopped, start, after_lines}
use Rattle.frame_run.specs.Words.{Task}
use Rattle.frame_run.specs.Work.{frames_by, frames_after_lines, lines_work, RoseWithin}
use Rattle.frame_run.specs.declared.input.InputTurn.{InputTurn}
use Rattle.frame_run.specs.declared.input.InputTurn.TheVariants as turn
use Rattle.frame_run.specs.declared.stage.Job.{Job}
use Rattle.frame_run.specs.declared.stage.Script.{Script}
use Rattle.frame_run.specs.declared.stage.Stage.{Stage}
use Rattle.frame_run.specs.declared.stage.Stage.TheVariants.{Reading, Running, Checked, Stopped}
use Rattle.frame_run.specs.declared.status.Status.{Status}

-- layouts so far left these frames, and what is flagged in the script's session has a cause
abbrev pub IsScriptCaused : {V : Type 0} {D : V → Type 0} → Script V D → Frames → At → Type 0
IsScriptCaused script frames (reading task p) = Unit {0}
IsScriptCaused script frames (running s lines refused) = IsLiveCaused frames s script.live
IsScriptCaused script frames checked = Unit {0}
IsScriptCaused script frames (stopped stop) = Unit {0}

-- so it is of a stage; in the program part nothing was laid out
abbrev pub IsStageCaused : {V : Type 0} {D : V → Type 0} → Stage V D → Frames → At → Type 0
IsStageCaused (Reading part) frames place = frames ≡ no_frames
IsStageCaused (Running script) frames place = IsScriptCaused script frames place
IsStageCaused Checked frames place = Unit {0}
IsStageCaused (Stopped stop) frames place = Unit {0}

-- and where it begins at a place
abbrev pub IsCausedFirst : {V : Type 0} {D : V → Type 0} → Stage V D → At → Type 0
IsCausedFirst stage place = IsStageCaused stage (frames_by place no_frames) place

abbrev pub IsJobCaused : {V : Type 0} {D : V → Type 0} → Job V D → Frames → At → Type 0
IsJobCaused job frames place = IsStageCaused job.stage frames place

-- a line that led to this place: what was known of these frames is known after it, and no more than this work was counted
pub record Went (caused_at : Frames → At → Type 0) (frames : Frames) (place : At) (work : Work) (builds_before builds_after layouts_before layouts_after paints_before paints_after : ℕ) : Type 0 where
  pub caused : caused_at (frames_by place frames) place
  pub within : RoseWithin work builds_before builds_after layouts_before layouts_after paints_before paints_after

-- bytes that were taken after a place and what had come of a line: the job stands where they lead, what was known is known
-- there, and no more than the work of the lines that end in them was counted
pub record WorksOn (stands_at : At → List ℕ → Type 0) (caused_at : Frames → At → Type 0) (frames : Frames) (place : At) (raw bytes : List ℕ) (builds_before builds_after layouts_before layouts_after paints_before paints_after : ℕ) : Type 0 where
  pub stands : stands_at (after_lines place (ended_lines raw bytes)) (last_line raw bytes)
  pub caused : caused_at (frames_after_lines frames place (ended_lines raw bytes)) (after_lines place (ended_lines raw bytes))
  pub within : RoseWithin (lines_work frames place (ended_lines raw bytes)) builds_before builds_after layouts_before layouts_after paints_before paints_after

-- what a turn over these bytes came to; want of memory may come in the midst of a frame
abbrev pub TurnWorks : InputTurn → (At → List ℕ → Type 0) → (Frames → At → Type 0) → Frames → At → List ℕ → List ℕ → ℕ → ℕ → ℕ → ℕ → ℕ → ℕ → Type 0
TurnWorks turn.Goes stands_at caused_at frames place raw bytes bo bn lo ln po pn = WorksOn stands_at caused_at frames place raw bytes bo bn lo ln po pn
TurnWorks (turn.Stops stop) stands_at caused_at frames place raw bytes bo bn lo ln po pn = RoseWithin (lines_work frames place (ended_lines raw bytes)) bo bn lo ln po pn
TurnWorks turn.NoMemory stands_at caused_at frames place raw bytes bo bn lo ln po pn = Unit {0}
TurnWorks turn.WriteFault stands_at caused_at frames place raw bytes bo bn lo ln po pn = RoseWithin (lines_work frames place (ended_lines raw bytes)) bo bn lo ln po pn

-- what a read of these bytes came to, of which there was room for so many
abbrev pub ReadWorks : Option Status → (At → List ℕ → Type 0) → (Frames → At → Type 0) → Frames → At → List ℕ → ℕ → List ℕ → ℕ → ℕ → ℕ → ℕ → ℕ → ℕ → Type 0
ReadWorks None stands_at caused_at frames place raw room bytes bo bn lo ln po pn = WorksOn stands_at caused_at frames place raw bytes bo bn lo ln po pn
ReadWorks (Some status) stands_at caused_at frames place raw room bytes bo bn lo ln po pn =
    OnMemory status (RoseWithin (lines_work frames place (ended_lines raw (take room bytes))) bo bn lo ln po pn)

-- a run so far, with what it counted
pub record RunWorks (task : Task) (left_old left_new held_old held_new : Option (List ℕ)) (stands_at : At → List ℕ → Type 0) (caused_at : Frames → At → Type 0) (count builds_before builds_after layouts_before layouts_after paints_before paints_after : ℕ) : Type 0 where
  pub run : HasRun task left_old left_new held_old held_new stands_at count
  pub works : WorksOn stands_at caused_at no_frames (start task) [] run.bytes builds_before builds_after layouts_before layouts_after paints_before paints_after
