-- What a line counted, and what is known after it, by where it leaves a script and a stage.
use Rattle.std.proofs.Common.{◌≡◌, ℕ, ◌+◌, ◌*◌, ◌≤◌, Bool, true, List, [], ◌∷◌, ◌++◌, length, take, Result, Ok, Err, OnOk, refl, ap, sym, subst, ◌∙◌, if◌then◌else◌}
use Rattle.std.proofs.Math.Seq.{take-append_seam}
use Rattle.delegates.specs.Table.{Means}
use Rattle.script_lines.specs.declared.entry.Entry.{Entry}
use Rattle.work_sets.specs.Before.{Frames}
use Rattle.work_sets.specs.Work.{Work, frames_then, due_components}
use Rattle.counted_work.specs.Known.{no_frames}
use Rattle.frame_session.proofs.WorkLemmas.{caused_again}
use Rattle.live_session.specs.EntryStep.{entry_step}
use Rattle.live_session.specs.RunState.{RunState, Came, went, refused, faulted}
use Rattle.live_session.specs.Works.{frames_of_entry, framed_from, IsLiveCaused, CausedAfter, EntryGoesOn}
use Rattle.live_session.specs.declared.live.Live.{Live}
use Rattle.frame_run.specs.Job.{StageStands, ScriptStands}
use Rattle.frame_run.specs.Lines.{is_mark, trimmed}
use Rattle.frame_run.specs.Script.{asked_of}
use Rattle.frame_run.specs.Text.{At, reading, running, checked, stopped, begun, stepped, after_asked, after_script_line, after_line}
use Rattle.frame_run.specs.Words.{Task, task_with, meant}
use Rattle.frame_run.specs.Work.{asked_work, script_work, line_work, frames_by, RoseWithin}
use Rattle.frame_run.specs.Works.{IsScriptCaused, IsStageCaused, IsCausedFirst, Went}
use Rattle.frame_run.specs.declared.script.Asked.{Asked}
use Rattle.frame_run.specs.declared.script.Asked.TheVariants as asked
use Rattle.frame_run.specs.declared.stage.ProgramPart.{ProgramPart}
use Rattle.frame_run.specs.declared.stage.RunStop.{RunStop}
use Rattle.frame_run.specs.declared.stage.Script.{Script}
use Rattle.frame_run.specs.declared.stage.Stage.{Stage}
use Rattle.frame_run.specs.declared.stage.Stage.TheVariants.{Reading, Running, Checked, Stopped}
use Rattle.frame_run.proofs.WorkLemmas.{within_none}

-- what is known after it may be said in other words
pub went_as : (A B : Frames → At → Type 0) (frames : Frames) (place : At) (work : Work) (bo bn lo ln po pn : ℕ) → (A (frames_by place frames) place → B (frames_by place frames) place)
    → Went A frames place work bo bn lo ln po pn → Went B frames place work bo bn lo ln po pn
went_as A B frames place work bo bn lo ln po pn f w = record { caused = f w.caused; within = w.within }

-- nothing was counted
pub went_quietly : (A : Frames → At → Type 0) (frames : Frames) (place : At) (work : Work) (u l p : ℕ) → A (frames_by place frames) place → Went A frames place work u u l l p p
went_quietly A frames place work u l p caused = record { caused = caused; within = within_none work u l p }

-- what is so is so after a success
pub on_ok : {A E : Type 0} (r : Result A E) (P : Type 0) → P → OnOk r P
on_ok (Ok x) P h = h
on_ok (Err e) P h = tt

-- of what was counted, without what is known
pub counted_ok : {A E : Type 0} (r : Result A E) (C : Frames → At → Type 0) (frames : Frames) (place : At) (work : Work) (bo bn lo ln po pn : ℕ) → OnOk r (Went C frames place work bo bn lo ln po pn)
    → OnOk r (RoseWithin work bo bn lo ln po pn)
counted_ok (Ok x) C frames place work bo bn lo ln po pn w = w.within
counted_ok (Err e) C frames place work bo bn lo ln po pn w = tt

module _ {V : Type 0} {D : V → Type 0} where
  -- ---- a script

  entry_caused : (script : Script V D) (live : Live V D) (frames : Frames) (s : RunState) (lines : ℕ) (some : Bool) (came : Came) → script.live ≡ live → CausedAfter frames s came live
      → IsScriptCaused script (frames_by (stepped came s lines some) frames) (stepped came s lines some)
  entry_caused script live frames s lines some (went next text) same h = subst (IsLiveCaused (frames_then next.session.shown frames) next) (sym same) h
  entry_caused script live frames s lines some (refused why) same h = subst (IsLiveCaused (frames_then s.session.shown frames) s) (sym same) h
  entry_caused script live frames s lines some (faulted fault) same h = tt

  -- what is read is one step
  pub went_entry : (script : Script V D) (live : Live V D) (frames : Frames) (s : RunState) (lines : ℕ) (some : Bool) (entry : Entry) (bo bn lo ln po pn : ℕ) → script.live ≡ live → bn ≤ bo + frames_of_entry entry * length (due_components (framed_from s)) → EntryGoesOn frames s entry live lo ln po pn
      → Went (IsScriptCaused script) frames (stepped (entry_step s entry) s lines some) (asked_work frames s (asked.Entry entry)) bo bn lo ln po pn
  went_entry script live frames s lines some entry bo bn lo ln po pn same built goes = record {
    caused = entry_caused script live frames s lines some (entry_step s entry) same goes.caused;
    within = record {
      builds = built;
      layouts = goes.layouts;
      paints = goes.paints;
    };
  }

  -- a line that leaves the session
  live_again : (live : Live V D) (frames : Frames) (s : RunState) → IsLiveCaused frames s live → IsLiveCaused (frames_then s.session.shown frames) s live
  live_again live frames s h = caused_again frames s.session live.session.kept.held.owner.screen.nodes h

  went_still : (script : Script V D) (live : Live V D) (frames : Frames) (s : RunState) (lines : ℕ) (some : Bool) (work : Work) (u l p : ℕ) → script.live ≡ live → IsLiveCaused frames s live
      → Went (IsScriptCaused script) frames (running s lines some) work u u l l p p
  went_still script live frames s lines some work u l p same h =
      went_quietly (IsScriptCaused script) frames (running s lines some) work u l p
      (subst (IsLiveCaused (frames_then s.session.shown frames) s) (sym same) (live_again live frames s h))

  -- a script line, by what it asks for
  went_asked : (script : Script V D) (frames : Frames) (s : RunState) (lines : ℕ) (some : Bool) (raw : List ℕ) (a : Asked) (bo bn lo ln po pn : ℕ) → asked_of (trimmed raw) ≡ a
      → Went (IsScriptCaused script) frames (after_asked s lines some a) (asked_work frames s a) bo bn lo ln po pn
      → Went (IsScriptCaused script) frames (after_script_line s lines some raw) (script_work frames s raw) bo bn lo ln po pn
  unfolding after_script_line script_work
  went_asked script frames s lines some raw a bo bn lo ln po pn e w =
      let P : Asked → Type 0 = λ x. Went (IsScriptCaused script) frames (after_asked s lines some x) (asked_work frames s x) bo bn lo ln po pn in subst P (sym e) w

  pub went_nothing : (script : Script V D) (live : Live V D) (frames : Frames) (s : RunState) (lines : ℕ) (some : Bool) (raw : List ℕ) (u l p : ℕ) → asked_of (trimmed raw) ≡ asked.Nothing → script.live ≡ live → IsLiveCaused frames s live
      → Went (IsScriptCaused script) frames (after_script_line s lines some raw) (script_work frames s raw) u u l l p p
  went_nothing script live frames s lines some raw u l p e same h =
      went_asked script frames s lines some raw asked.Nothing u u l l p p e (went_still script live frames s lines some (asked_work frames s asked.Nothing) u l p same h)

  pub went_refused : (script : Script V D) (live : Live V D) (frames : Frames) (s : RunState) (lines : ℕ) (some : Bool) (raw : List ℕ) (a : Asked) (u l p : ℕ) → asked_of (trimmed raw) ≡ a
      → after_asked s lines some a ≡ running s lines true → script.live ≡ live → IsLiveCaused frames s live
      → Went (IsScriptCaused script) frames (after_script_line s lines some raw) (script_work frames s raw) u u l l p p
  went_refused script live frames s lines some raw a u l p e is same h =
      let P : At → Type 0 = λ at. Went (IsScriptCaused script) frames at (asked_work frames s a) u u l l p p in
      went_asked script frames s lines some raw a u u l l p p e (subst P (sym is) (went_still script live frames s lines true (asked_work frames s a) u l p same h))

  pub went_asked_ok : {A E : Type 0} (r : Result A E) (script : Script V D) (frames : Frames) (s : RunState) (lines : ℕ) (some : Bool) (raw : List ℕ) (a : Asked) (bo bn lo ln po pn : ℕ) → asked_of (trimmed raw) ≡ a
      → OnOk r (Went (IsScriptCaused script) frames (after_asked s lines some a) (asked_work frames s a) bo bn lo ln po pn)
      → OnOk r (Went (IsScriptCaused script) frames (after_script_line s lines some raw) (script_work frames s raw) bo bn lo ln po pn)
  went_asked_ok (Ok x) script frames s lines some raw a bo bn lo ln po pn e w = went_asked script frames s lines some raw a bo bn lo ln po pn e w
  went_asked_ok (Err e) script frames s lines some raw a bo bn lo ln po pn is w = tt

  -- ---- a stage

  -- by what the stage is
  pub caused_in : (stage other : Stage V D) (frames : Frames) (place : At) → stage ≡ other → IsStageCaused stage frames place → IsStageCaused other frames place
  caused_in stage other frames place is h = let P : Stage V D → Type 0 = λ s. IsStageCaused s frames place in subst P is h

  went_in : (stage other : Stage V D) (frames : Frames) (place : At) (work : Work) (bo bn lo ln po pn : ℕ) → stage ≡ other → Went (IsStageCaused other) frames place work bo bn lo ln po pn → Went (IsStageCaused stage) frames place work bo bn lo ln po pn
  went_in stage other frames place work bo bn lo ln po pn is w = let P : Stage V D → Type 0 = λ s. Went (IsStageCaused s) frames place work bo bn lo ln po pn in subst P (sym is) w

  pub went_checked : (stage : Stage V D) (frames : Frames) (place : At) (work : Work) (u l p : ℕ) → stage ≡ Checked → Went (IsStageCaused stage) frames place work u u l l p p
  went_checked stage frames place work u l p is = went_in stage Checked frames place work u u l l p p is (went_quietly (IsStageCaused {V = V} {D = D} Checked) frames place work u l p tt)

  pub went_stopped : (stage : Stage V D) (stop : RunStop) (frames : Frames) (place : At) (work : Work) (u l p : ℕ) → stage ≡ Stopped stop → Went (IsStageCaused stage) frames place work u u l l p p
  went_stopped stage stop frames place work u l p is = went_in stage (Stopped stop) frames place work u u l l p p is (went_quietly (IsStageCaused {V = V} {D = D} (Stopped stop)) frames place work u l p tt)

  -- a line stopped the run
  pub went_stops : (next : Stage V D) (stop : RunStop) (C : Frames → At → Type 0) (frames : Frames) (place : At) (work : Work) (bo bn lo ln po pn : ℕ) → next ≡ Stopped stop → Went C frames place work bo bn lo ln po pn
      → Went (IsStageCaused next) frames place work bo bn lo ln po pn
  went_stops next stop C frames place work bo bn lo ln po pn is w = went_in next (Stopped stop) frames place work bo bn lo ln po pn is (went_as C (IsStageCaused {V = V} {D = D} (Stopped stop)) frames place work bo bn lo ln po pn (λ h. tt) w)

  -- the line was one of a script
  pub went_script : (script next : Script V D) (meaning : Means D) (frames : Frames) (place : At) (raw : List ℕ) (bo bn lo ln po pn : ℕ) → StageStands (Running script) meaning place raw → IsStageCaused (Running script) frames place
      → ((s : RunState) (lines : ℕ) (some : Bool) → ScriptStands script meaning s lines some → IsLiveCaused frames s script.live
      → Went (IsScriptCaused next) frames (after_script_line s (lines + 1) some raw) (script_work frames s raw) bo bn lo ln po pn)
      → Went (IsScriptCaused next) frames (after_line place raw) (line_work frames place raw) bo bn lo ln po pn
  went_script script next meaning frames (reading task p) raw bo bn lo ln po pn stands caused goes = absurd stands
  went_script script next meaning frames (running s lines some) raw bo bn lo ln po pn stands caused goes = goes s lines some stands caused
  went_script script next meaning frames checked raw bo bn lo ln po pn stands caused goes = absurd stands
  went_script script next meaning frames (stopped other) raw bo bn lo ln po pn stands caused goes = absurd stands

  -- the line `%%` ended the program part
  pub went_mark : (part : ProgramPart V D) (next : Stage V D) (meaning : Means D) (frames : Frames) (place : At) (raw program : List ℕ) (u l p : ℕ)
      → StageStands (Reading part) meaning place raw → IsStageCaused (Reading part) frames place → is_mark raw ≡ true → program ≡ take part.line_start part.bytes.items
      → IsCausedFirst next (begun (task_with part.mode (meant part.delegates.items meaning)) program) → Went (IsStageCaused next) frames (after_line place raw) (line_work frames place raw) u u l l p p
  went_mark part next meaning frames (reading task p) raw program u l q stands first mark is begins =
      let front : program ≡ p = is ∙ ap (λ n. take n part.bytes.items) stands.2 ∙ ap (take (length p)) stands.1 ∙ take-append_seam p raw in
      let P : List ℕ → Type 0 = λ b. IsCausedFirst next (begun (task_with part.mode (meant part.delegates.items meaning)) b) in
      let Q : Task → Type 0 = λ t. IsCausedFirst next (begun t p) in
      let F : Frames → Type 0 = λ fs. IsStageCaused next (frames_by (begun task p) fs) (begun task p) in
      let R : Bool → Type 0 = λ v. let at = (if v then begun task p else reading task (p ++ raw ++ 10 ∷ [])) in IsStageCaused next (frames_by at frames) at in
      went_quietly (IsStageCaused next) frames (after_line (reading task p) raw) (line_work frames (reading task p) raw) u l q
      (subst R (sym mark) (subst F (sym first) (subst Q stands.0 (subst P front begins))))
  went_mark part next meaning frames (running s lines some) raw program u l q stands first mark is begins = absurd stands
  went_mark part next meaning frames checked raw program u l q stands first mark is begins = absurd stands
  went_mark part next meaning frames (stopped other) raw program u l q stands first mark is begins = absurd stands

  -- a job that stands before its first line is in the program part
  pub begins : (stage : Stage V D) (meaning : Means D) (task : Task) → StageStands stage meaning (reading task []) [] → IsStageCaused stage no_frames (reading task [])
  begins (Reading part) meaning task stands = refl
  begins (Running script) meaning task stands = absurd stands
  begins Checked meaning task stands = absurd stands
  begins (Stopped stop) meaning task stands = absurd stands
