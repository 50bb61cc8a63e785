-- A read that ends the run.
use Rattle.std.proofs.Common.{◌≡◌, ℕ, ◌<◌, ◌≤◌, inl, inr, List, ◌++◌, length, Option, ap, sym, ◌∙◌, arith}
use Rattle.frame_run.specs.Lines.{ended_lines, last_line}
use Rattle.frame_run.specs.Text.{At, after_lines, lines_text, over_status, stop_status}
use Rattle.frame_run.specs.Job.{Took}
use Rattle.frame_run.specs.Reads.{EndsRead}
use Rattle.frame_run.specs.declared.stage.RunStop.{RunStop}
use Rattle.frame_run.specs.declared.status.Status.{Status}
use Rattle.frame_run.specs.declared.status.Status.TheVariants as status
use Rattle.frame_run.specs.declared.input.InputTurn.TheVariants as turn
use Rattle.frame_run.proofs.StatusLemmas.{on_end}

-- there is no more room, and more bytes came
pub ends_over : (s : Status) (job : At → List ℕ → Type 0) (place : At) (raw : List ℕ) (room : ℕ) (bytes front more : List ℕ) (old new : Option (List ℕ))
    → bytes ≡ front ++ more → length front ≡ room → 0 < length more
    → Took turn.Goes job (after_lines place (ended_lines raw front)) (last_line raw front) old new (lines_text place (ended_lines raw front))
    → s ≡ over_status (after_lines place (ended_lines raw front)) → EndsRead s place raw room bytes old new
ends_over s job place raw room bytes front more old new sum full h took answer = record {
  front = front;
  more = more;
  sum = sum;
  fits = omega arith;
  over = on_end s _ (inr (full, h));
  answer = on_end s _ answer;
  whole = on_end s _ took.all;
  part = took.part;
}

-- something stopped the run
pub ends_stopped : (s : Status) (job : At → List ℕ → Type 0) (place : At) (raw : List ℕ) (room : ℕ) (bytes front more : List ℕ) (old new : Option (List ℕ)) (stop : RunStop)
    → bytes ≡ front ++ more → length front ≤ room
    → Took (turn.Stops stop) job (after_lines place (ended_lines raw front)) (last_line raw front) old new (lines_text place (ended_lines raw front))
    → s ≡ stop_status stop → EndsRead s place raw room bytes old new
ends_stopped s job place raw room bytes front more old new stop sum fits took answer = record {
  front = front;
  more = more;
  sum = sum;
  fits = fits;
  over = on_end s _ (inl (stop, took.lands));
  answer = on_end s _ (answer ∙ ap over_status (sym took.lands));
  whole = on_end s _ took.all;
  part = took.part;
}

-- the run was cut off
pub ends_memory : (job : At → List ℕ → Type 0) (place : At) (raw : List ℕ) (room : ℕ) (bytes front more : List ℕ) (old new : Option (List ℕ))
    → bytes ≡ front ++ more → length front ≤ room
    → Took turn.NoMemory job (after_lines place (ended_lines raw front)) (last_line raw front) old new (lines_text place (ended_lines raw front))
    → EndsRead status.NoMemory place raw room bytes old new
ends_memory job place raw room bytes front more old new sum fits took =
    record { front = front; more = more; sum = sum; fits = fits; over = tt; answer = tt; whole = tt; part = took.part }

pub ends_fault : (job : At → List ℕ → Type 0) (place : At) (raw : List ℕ) (room : ℕ) (bytes front more : List ℕ) (old new : Option (List ℕ))
    → bytes ≡ front ++ more → length front ≤ room
    → Took turn.WriteFault job (after_lines place (ended_lines raw front)) (last_line raw front) old new (lines_text place (ended_lines raw front))
    → EndsRead status.WriteFault place raw room bytes old new
ends_fault job place raw room bytes front more old new sum fits took =
    record { front = front; more = more; sum = sum; fits = fits; over = tt; answer = tt; whole = tt; part = took.part }
