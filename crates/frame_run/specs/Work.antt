-- How much the frames of a run may build, lay out and paint: the work of each frame, summed over the lines.
use Rattle.std.specs.Prelude.{ℕ, ◌+◌, ◌*◌, ◌≤◌, List, [], ◌∷◌, ◌++◌, length, take, nat_le, Option, Some, None, if◌then◌else◌}
use Rattle.work_sets.specs.Before.{Frames}
use Rattle.work_sets.specs.Work.{Work, frame_work, frames_then}
use Rattle.counted_work.specs.Known.{no_frames}
use Rattle.live_session.specs.RunState.{RunState}
use Rattle.live_session.specs.Works.{frames_of_entry, framed_from}
use Rattle.frame_run.specs.Lines.{ended_lines, last_line, trimmed}
use Rattle.frame_run.specs.Script.{asked_of}
use Rattle.frame_run.specs.Text.{At, reading, running, checked, stopped, start, after_line}
use Rattle.frame_run.specs.Words.{RunSetup, mode_given, input_given, Task, task_with}
use Rattle.frame_run.specs.declared.words.Mode.{Mode}
use Rattle.frame_run.specs.declared.script.Asked.{Asked}
use Rattle.frame_run.specs.declared.script.Asked.TheVariants as asked

-- none, so many times as much, and both together
abbrev pub no_work : Work
no_work = record { builds = 0; layouts = 0; paints = 0 }

abbrev pub work_times : ℕ → Work → Work
work_times n w = record { builds = n * w.builds; layouts = n * w.layouts; paints = n * w.paints }

abbrev pub more_work : Work → Work → Work
more_work a b = record { builds = a.builds + b.builds; layouts = a.layouts + b.layouts; paints = a.paints + b.paints }

-- of a script line, by what it asks for, where layouts left these frames: the work of the frame that it makes, if it makes one
abbrev pub asked_work : Frames → RunState → Asked → Work
asked_work frames s asked.Nothing = no_work
asked_work frames s (asked.Entry entry) = work_times (frames_of_entry entry) (frame_work frames (framed_from s))
asked_work frames s (asked.Refused refusal) = no_work

unfoldable pub script_work : Frames → RunState → List ℕ → Work
script_work frames s line = asked_work frames s (asked_of (trimmed line))

-- of one more line of the input: the program part makes no frame, nor does a script that isn't run
abbrev pub line_work : Frames → At → List ℕ → Work
line_work frames (reading task part) line = no_work
line_work frames (running s lines some_refused) line = script_work frames s line
line_work frames checked line = no_work
line_work frames (stopped stop) line = no_work

-- the frames that layouts left when a run stands at a place, where these were left before the line that led there
abbrev pub frames_by : At → Frames → Frames
frames_by (reading task part) frames = frames
frames_by (running s lines some_refused) frames = frames_then s.session.shown frames
frames_by checked frames = frames
frames_by (stopped stop) frames = frames

-- lines, one after the other: the frames that layouts left after them, and the sum of their work
abbrev pub frames_after_lines : Frames → At → List (List ℕ) → Frames
frames_after_lines frames at [] = frames
frames_after_lines frames at (line ∷ lines) = frames_after_lines (frames_by (after_line at line) frames) (after_line at line) lines

abbrev pub lines_work : Frames → At → List (List ℕ) → Work
lines_work frames at [] = no_work
lines_work frames at (line ∷ lines) =
    more_work (line_work frames at line) (lines_work (frames_by (after_line at line) frames) (after_line at line) lines)

-- The lines of an input that a run reads: those that end within the limit, and where the input is no longer, what comes after
-- them.
abbrev pub lines_read : ℕ → List ℕ → List (List ℕ)
lines_read limit bytes =
    if nat_le (length bytes) limit then ended_lines [] bytes ++ last_line [] bytes ∷ [] else ended_lines [] (take limit bytes)

-- the work of a task over these bytes; before it nothing was laid out
unfoldable pub job_work : Task → ℕ → List ℕ → Work
job_work task limit bytes = lines_work no_frames (start task) (lines_read limit bytes)

-- by the mode that the words ask for; where they are refused there is none
abbrev pub work_for : Option Mode → RunSetup → List ℕ → Work
work_for None g bytes = no_work
work_for (Some mode) g bytes = job_work (task_with mode g.delegates) g.limit bytes

unfoldable pub input_work : RunSetup → List ℕ → Work
input_work g bytes = work_for (mode_given g) g bytes

-- the work of a run over these bytes: that of the input that its job is done on
unfoldable pub work_of : RunSetup → List ℕ → Work
work_of g bytes = input_work g (input_given g bytes)

-- the counts of builds, of layouts and of paints rose by no more than this work
pub record RoseWithin (work : Work) (builds_before builds_after layouts_before layouts_after paints_before paints_after : ℕ) : Type 0 where
  pub builds : builds_after ≤ builds_before + work.builds
  pub layouts : layouts_after ≤ layouts_before + work.layouts
  pub paints : paints_after ≤ paints_before + work.paints
