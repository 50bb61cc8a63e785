-- In mode `check` no line is run: none has work, and nothing is counted.
use Rattle.std.proofs.Common.{◌≡◌, ℕ, ◌≤◌, Bool, true, false, List, [], ◌∷◌, ◌++◌, Option, Some, Result, Ok, Err, refl, ap, ap₂, sym, subst, ◌∙◌, arith, if◌then◌else◌}
use Rattle.delegates.specs.Table.{Plug}
use Rattle.work_sets.specs.Before.{Frames}
use Rattle.work_sets.specs.Work.{Work}
use Rattle.counted_work.specs.Known.{no_frames}
use Rattle.frame_run.specs.Lines.{is_mark}
use Rattle.frame_run.specs.Program.{to_check, begun_with, component_count, program_in}
use Rattle.frame_run.specs.Status.{OnMemory}
use Rattle.frame_run.specs.Text.{At, reading, running, checked, stopped, start, begun, begun_by, after_line, status_of, text_of}
use Rattle.frame_run.specs.Words.{RunSetup, Task, task_with, request_given}
use Rattle.frame_run.specs.Work.{no_work, more_work, line_work, frames_by, lines_work, lines_read, job_work, work_of, RoseWithin}
use Rattle.frame_run.specs.Run.{AnsweredWithin}
use Rattle.frame_run.specs.declared.program.ProgramFault.{ProgramFault}
use Rattle.frame_run.specs.declared.status.Status.{Status}
use Rattle.frame_run.specs.declared.words.Mode.{Mode}
use Rattle.frame_run.specs.declared.words.Mode.TheVariants.{Check}
use Rattle.frame_run.specs.declared.words.Request.TheVariants.{Input}
use Rattle.frame_run.proofs.StatusLemmas.{OnMemory-map}
use Rattle.frame_run.proofs.WorkedLemmas.{work_in}

-- ---- lines

-- where no script is run, nor will one be: the program part is one in mode `check`
abbrev IsUnrun : At → Type 0
IsUnrun (reading task part) = task.mode ≡ Check
IsUnrun (running s lines some_refused) = ⊥
IsUnrun checked = Unit {0}
IsUnrun (stopped stop) = Unit {0}

-- a program is checked, or refused
unrun_count : (delegates : List Plug) (count : Result ℕ ProgramFault) → IsUnrun (begun_by delegates (begun_with to_check count))
unrun_count delegates (Ok n) = tt
unrun_count delegates (Err fault) = tt

unrun_begun : (task : Task) (part : List ℕ) → task.mode ≡ Check → IsUnrun (begun task part)
unfolding begun
unrun_begun task part is =
    let P : Mode → Type 0 = λ m. IsUnrun (begun_by task.delegates (program_in m part)) in subst P (sym is) (unrun_count task.delegates (component_count part))

-- a line of the program part, by whether it ends that
unrun_part : (ends : Bool) (task : Task) (part more : List ℕ) → task.mode ≡ Check → IsUnrun (if ends then begun task part else reading task more)
unrun_part true task part more is = unrun_begun task part is
unrun_part false task part more is = is

unrun_line : (at : At) (line : List ℕ) → IsUnrun at → IsUnrun (after_line at line)
unrun_line (reading task part) line is = unrun_part (is_mark line) task part (part ++ line ++ 10 ∷ []) is
unrun_line (running s lines some_refused) line is = absurd is
unrun_line checked line is = tt
unrun_line (stopped stop) line is = tt

line_unrun : (frames : Frames) (at : At) (line : List ℕ) → IsUnrun at → line_work frames at line ≡ no_work
line_unrun frames (reading task part) line is = refl
line_unrun frames (running s lines some_refused) line is = absurd is
line_unrun frames checked line is = refl
line_unrun frames (stopped stop) line is = refl

lines_unrun : (frames : Frames) (at : At) (lines : List (List ℕ)) → IsUnrun at → lines_work frames at lines ≡ no_work
lines_unrun frames at [] is = refl
lines_unrun frames at (line ∷ lines) is =
    let next = after_line at line in
    ap₂ more_work (line_unrun frames at line is) (lines_unrun (frames_by next frames) next lines (unrun_line at line is))

job_unrun : (task : Task) (limit : ℕ) (bytes : List ℕ) → task.mode ≡ Check → job_work task limit bytes ≡ no_work
unfolding job_work
job_unrun task limit bytes is = lines_unrun no_frames (start task) (lines_read limit bytes) is

-- ---- a run

work_unrun : (g : RunSetup) (b : List ℕ) → request_given g ≡ Some (Input Check) → work_of g b ≡ no_work
work_unrun g b e = work_in g b (Some (Input Check)) e ∙ job_unrun (task_with Check g.delegates) g.limit b refl

none_rose : (work : Work) (bo bn lo ln po pn : ℕ) → work ≡ no_work → RoseWithin work bo bn lo ln po pn → (bn ≤ bo) × (ln ≤ lo) × (pn ≤ po)
none_rose work bo bn lo ln po pn e w =
    let u : work.builds ≡ 0 = ap (λ (x : Work). x.builds) e in
    let l : work.layouts ≡ 0 = ap (λ (x : Work). x.layouts) e in
    let p : work.paints ≡ 0 = ap (λ (x : Work). x.paints) e in
    (omega (arith, u, w.builds), omega (arith, l, w.layouts), omega (arith, p, w.paints))

pub check_uncounted : (g : RunSetup) (s : Status) (l0 l1 h0 h1 : Option (List ℕ)) (bo bn lo ln po pn : ℕ) → request_given g ≡ Some (Input Check)
    → AnsweredWithin (status_of g) (text_of g) (work_of g) s l0 l1 h0 h1 bo bn lo ln po pn → OnMemory s ((bn ≤ bo) × (ln ≤ lo) × (pn ≤ po))
check_uncounted g s l0 l1 h0 h1 bo bn lo ln po pn e a =
    let work = work_of g a.answered.bytes in
    OnMemory-map s (RoseWithin work bo bn lo ln po pn) ((bn ≤ bo) × (ln ≤ lo) × (pn ≤ po))
    (λ (w : RoseWithin work bo bn lo ln po pn). none_rose work bo bn lo ln po pn (work_unrun g a.answered.bytes e) w) a.within
