-- How far a run has come between two reads, and what a read comes to.
use Rattle.std.specs.Prelude.{◌≡◌, ℕ, ◌<◌, ◌≤◌, ◌⊎◌, List, [], ◌++◌, length, Option, Some, None}
use Rattle.fx_outside.specs.Told.{HasRead, HasWritten, HasPart}
use Rattle.frame_run.specs.Lines.{ended_lines, last_line}
use Rattle.frame_run.specs.Text.{At, stopped, start, after_lines, lines_text, over_status}
use Rattle.frame_run.specs.Job.{Took}
use Rattle.frame_run.specs.Words.{Task}
use Rattle.frame_run.specs.Status.{OnEnd}
use Rattle.frame_run.specs.declared.input.InputTurn.TheVariants as turn
use Rattle.frame_run.specs.declared.stage.RunStop.{RunStop}
use Rattle.frame_run.specs.declared.status.Status.{Status}

-- the run stands at an end before its input's: it is stopped, or there is no more room and more bytes came
abbrev pub IsOver : At → ℕ → List ℕ → List ℕ → Type 0
IsOver place room front more = ((stop : RunStop) × (place ≡ stopped stop)) ⊎ ((length front ≡ room) × (0 < length more))

-- so many bytes were read; the job, of which `stands_at` says where it stands, stands where their lines leave it, and their
-- text is written
pub record HasRun (task : Task) (left_old left_new held_old held_new : Option (List ℕ)) (stands_at : At → List ℕ → Type 0) (count : ℕ) : Type 0 where
  pub bytes : List ℕ
  pub read : HasRead left_old left_new bytes
  pub counted : length bytes ≡ count
  pub stands : stands_at (after_lines (start task) (ended_lines [] bytes)) (last_line [] bytes)
  pub written : HasWritten held_old held_new (lines_text (start task) (ended_lines [] bytes))

-- a read that ends the run: so much of its bytes as there is room for was taken, up to what stopped the run or up to the
-- limit, past which more came
pub record EndsRead (status : Status) (place : At) (raw : List ℕ) (room : ℕ) (bytes : List ℕ) (old new : Option (List ℕ)) : Type 0 where
  pub front : List ℕ
  pub more : List ℕ
  pub sum : bytes ≡ front ++ more
  pub fits : length front ≤ room
  pub over : OnEnd status (IsOver (after_lines place (ended_lines raw front)) room front more)
  pub answer : OnEnd status (status ≡ over_status (after_lines place (ended_lines raw front)))
  pub whole : OnEnd status (HasWritten old new (lines_text place (ended_lines raw front)))
  pub part : HasPart old new (lines_text place (ended_lines raw front))

-- what a read came to
abbrev pub TookRead : Option Status → (At → List ℕ → Type 0) → At → List ℕ → ℕ → List ℕ → Option (List ℕ) → Option (List ℕ) → Type 0
TookRead None stands place raw room bytes old new =
    (length bytes ≤ room)
    × Took turn.Goes stands (after_lines place (ended_lines raw bytes)) (last_line raw bytes) old new (lines_text place (ended_lines raw bytes))
TookRead (Some status) stands place raw room bytes old new = EndsRead status place raw room bytes old new
