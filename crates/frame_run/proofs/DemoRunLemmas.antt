-- What mode `demo` comes to: nothing is read, and its summary is written.
use Rattle.std.proofs.Common.{◌≡◌, ℕ, List, [], Option, Some, sym, subst, ◌∙◌}
use Rattle.fx_outside.specs.Told.{HasWritten, HasPart}
use Rattle.fx_outside.proofs.Joined.{read_none}
use Rattle.frame_run.specs.Demo.{demo_input, summary}
use Rattle.frame_run.specs.Run.{CutOff, Answered}
use Rattle.frame_run.specs.Status.{OnEnd}
use Rattle.frame_run.specs.Text.{job_status, job_text, status_of, text_of, ended_text_of}
use Rattle.frame_run.specs.Words.{RunSetup, request_given, task_with, TakesInput}
use Rattle.frame_run.specs.declared.words.Mode.TheVariants.{Run}
use Rattle.frame_run.specs.declared.words.Request.TheVariants.{Input, Demo}
use Rattle.frame_run.specs.declared.status.Status.{Status}
use Rattle.frame_run.specs.declared.status.Status.TheVariants.{ReadFault, TooLong}
use Rattle.frame_run.proofs.RunLemmas.{cut_before}
use Rattle.frame_run.proofs.WordsLemmas.{status_in, text_in, ended_in}

-- the job's status and text in mode `demo`
abbrev pub demo_status : RunSetup → ℕ → ℕ → Status
demo_status g seed size = job_status (task_with Run g.delegates) g.limit (demo_input seed size)

abbrev pub demo_text : RunSetup → ℕ → ℕ → List ℕ
demo_text g seed size = summary seed size (job_text (task_with Run g.delegates) g.limit (demo_input seed size))

pub demo_has_status : (g : RunSetup) (b : List ℕ) (seed size : ℕ) (s : Status) → request_given g ≡ Some (Demo seed size) → OnEnd s (s ≡ demo_status g seed size)
    → OnEnd s (s ≡ status_of g b)
demo_has_status g b seed size s e h =
    let P : Status → Type 0 = λ t. OnEnd s (s ≡ t) in subst P (sym (status_in g b (Some (Demo seed size)) e)) h

pub demo_has_text : (g : RunSetup) (b : List ℕ) (seed size : ℕ) (s : Status) (old new : Option (List ℕ)) → request_given g ≡ Some (Demo seed size)
    → OnEnd s (HasWritten old new (demo_text g seed size)) → OnEnd s (HasWritten old new (text_of g b))
demo_has_text g b seed size s old new e h =
    let P : List ℕ → Type 0 = λ t. OnEnd s (HasWritten old new t) in subst P (sym (text_in g b (Some (Demo seed size)) e)) h

-- none of its text waits for more bytes
pub demo_long_text : (g : RunSetup) (b : List ℕ) (seed size : ℕ) (s : Status) (old new : Option (List ℕ)) → request_given g ≡ Some (Demo seed size)
    → OnEnd s (HasWritten old new (demo_text g seed size)) → s ≡ TooLong → HasWritten old new (ended_text_of g b)
demo_long_text g b seed size s old new e h is =
    let P : Status → Type 0 = λ t. OnEnd t (HasWritten old new (demo_text g seed size)) in
    let Q : List ℕ → Type 0 = λ t. HasWritten old new t in subst Q (sym (ended_in g b (Some (Demo seed size)) e)) (subst P is h)

pub demo_cut_off : (g : RunSetup) (seed size : ℕ) (s : Status) (left h0 h1 : Option (List ℕ)) → request_given g ≡ Some (Demo seed size)
    → (s ≡ ReadFault → ⊥) → HasPart h0 h1 (demo_text g seed size) → CutOff (ended_text_of g) (text_of g) s left left h0 h1
demo_cut_off g seed size s left h0 h1 e never part =
    let P : List ℕ → Type 0 = λ t. HasPart h0 h1 t in
    record {
      bytes = [];
      read = read_none left;
      part = cut_before (ended_text_of g) (text_of g) s left h0 h1 [] never (subst P (sym (ended_in g [] (Some (Demo seed size)) e)) part);
    }

pub demo_answered : (g : RunSetup) (seed size : ℕ) (s : Status) (left h0 h1 : Option (List ℕ)) → request_given g ≡ Some (Demo seed size)
    → OnEnd s (s ≡ demo_status g seed size) → OnEnd s (HasWritten h0 h1 (demo_text g seed size)) → Answered (status_of g) (text_of g) s left left h0 h1
demo_answered g seed size s left h0 h1 e answer written =
    record { bytes = []; read = read_none left; answer = demo_has_status g [] seed size s e answer; text = demo_has_text g [] seed size s h0 h1 e written }

-- it takes no input
pub demo_takes_none : (g : RunSetup) (seed size : ℕ) → request_given g ≡ Some (Demo seed size) → TakesInput g → ⊥
demo_takes_none g seed size e takes =
    let f : Some (Demo seed size) ≡ Some (Input takes.0) = sym e ∙ takes.1 in cc
