-- How many builds, layouts and paints the frames of inputs may count, worked by hand.
use Rattle.std.specs.Prelude.{◌≡◌, ℕ, ◌+◌, false, Result, Ok, Err, List, [], ◌∷◌, ◌++◌, length, codes}
use Rattle.program_check.specs.Checked.{PlainChecked}
use Rattle.work_sets.specs.Scripts.{leaf, key_in_choice, lazily}
use Rattle.work_sets.specs.Work.{Work}
use Rattle.counted_work.specs.Known.{no_frames}
use Rattle.live_session.specs.RunState.{first_run}
use Rattle.frame_run.specs.Program.{checked_of}
use Rattle.frame_run.specs.Text.{running}
use Rattle.frame_run.specs.Words.{task_with}
use Rattle.frame_run.specs.Work.{lines_work, job_work}
use Rattle.frame_run.specs.declared.program.ProgramFault.{ProgramFault}
use Rattle.frame_run.specs.declared.words.Mode.{Mode}
use Rattle.frame_run.specs.declared.words.Mode.TheVariants as modes

-- so many builds, layouts and paints
abbrev pub sums : ℕ → ℕ → ℕ → Work
sums builds layouts paints = record { builds = builds; layouts = layouts; paints = paints }

-- of script lines; no program here is refused
abbrev pub sums_in : Result PlainChecked ProgramFault → List (List ℕ) → Work
sums_in (Ok c) lines = lines_work no_frames (running (first_run c []) 0 false) lines
sums_in (Err fault) lines = sums 1000 1000 1000

abbrev pub script : List ℕ → List (List ℕ) → Work
script program lines = sums_in (checked_of program) lines

-- of a whole input in a mode, where so many bytes are taken
abbrev pub input : Mode → ℕ → List ℕ → Work
input mode limit bytes = job_work (task_with mode []) limit bytes

pub record WorksOfSums : Type 0 where
  -- a first frame builds component 4, and lays out and paints its four nodes, 1, 2, 3 and 5; a second one after it nothing
  pub twice : script leaf (codes "frame" ∷ codes "frame" ∷ []) ≡ sums 1 4 4
  -- a leaf that changed: its component is built, 2, 3 and 5 are laid out again, and all four are painted
  pub changed : script leaf (codes "frame" ∷ codes "set #4 w 30" ∷ codes "frame" ∷ []) ≡ sums 2 7 8
  -- so it is where a tween changed it
  pub by_tween : script leaf (codes "frame" ∷ codes "tween #4 w 20 40 100 linear" ∷ codes "at 50" ∷ codes "frame" ∷ []) ≡ sums 2 7 8
  -- lines that are refused, and others that make no frame
  pub without_frame : script leaf (codes "frame" ∷ codes "set #9 w 1" ∷ codes "frame 1" ∷ codes "press" ∷ codes "states" ∷ codes "" ∷ []) ≡ sums 1 4 4
  -- a frame with a fault, after which nothing is run: of components 2, 3 and 5 the last is built again, and of the three nodes 1, 4 and 6 none
  -- is laid out or painted again
  pub faulted : script key_in_choice (codes "frame" ∷ codes "set #5 on true" ∷ codes "frame" ∷ codes "frame" ∷ []) ≡ sums 4 3 3
  -- from version 2 on each node may be laid out twice: 1, 2, 4 and 6 of the lazy list, which are painted once; 3 and 5 are its components
  pub lazy : script lazily (codes "frame" ∷ codes "frame" ∷ []) ≡ sums 2 8 4
  -- whole inputs, also without an U+000A at their end; and one that is longer than what is taken, up to the first frame's line
  -- or not as far
  pub whole : input modes.Run 1000 (leaf ++ codes "\n%%\nframe\nset #4 w 30\nframe\n") ≡ sums 2 7 8
  pub last_line : input modes.Run 1000 (leaf ++ codes "\n%%\nframe") ≡ sums 1 4 4
  pub too_long : input modes.Run (length leaf + 10) (leaf ++ codes "\n%%\nframe\nframe\n") ≡ sums 1 4 4
  pub cut_off : input modes.Run (length leaf + 9) (leaf ++ codes "\n%%\nframe\nframe\n") ≡ sums 0 0 0
  -- a program that is only checked, and one that is refused
  pub checked : input modes.Check 1000 (leaf ++ codes "\n%%\nframe\n") ≡ sums 0 0 0
  pub refused : input modes.Run 1000 (codes "{}\n%%\nframe\n") ≡ sums 0 0 0
