-- The text and the status by what is asked for, and this by `clap`'s reading of the words.
use Rattle.std.proofs.Common.{◌≡◌, ℕ, true, List, [], ◌∷◌, Option, Some, None, refl, ap, ap₂, sym, subst, ◌∙◌, inl, inr}
use Rattle.fx_outside.specs.Told.{HasWritten}
use Rattle.fx_outside.proofs.Joined.{written_none}
use Rattle.clap.proofs.OnLiterals.{clap_on_literals}
use Rattle.clap.specs.Walk.{Row}
use Rattle.clap.specs.Simple.{App, is_simple, matches_of}
use Rattle.clap.specs.Kinds.{Kinds, HasKind}
use Rattle.clap.specs.Faults.{fault_of, is_simple_and_free}
use Rattle.clap.specs.Values.{kind_of}
use Rattle.clap.specs.declared.error.Error.{Error}
use Rattle.clap.specs.declared.error.kind.ErrorKind.TheVariants.{OutOfMemory}
use Rattle.frame_run.specs.Status.{OnEnd}
use Rattle.frame_run.specs.Words.{RunSetup, request_given, mode_by, input_by, task_with, command_line, request_by, request_of}
use Rattle.frame_run.specs.Run.{CutOff}
use Rattle.frame_run.specs.Text.{job_status, job_text, job_ended, status_for, text_for, ended_for, input_status, input_text, input_ended, written_by, status_of, text_of, ended_text_of}
use Rattle.frame_run.specs.declared.words.Mode.{Mode}
use Rattle.frame_run.specs.declared.words.Request.{Request}
use Rattle.frame_run.specs.declared.words.Request.TheVariants.{Input}
use Rattle.frame_run.specs.declared.status.Status.{Status}
use Rattle.frame_run.specs.declared.status.Status.TheVariants.{BadWords}

-- ---- by what is asked for

abbrev pub status_by : RunSetup → List ℕ → Option Request → Status
status_by g b o = status_for (mode_by o) g (input_by o b)

abbrev pub text_by : RunSetup → List ℕ → Option Request → List ℕ
text_by g b o = written_by o (text_for (mode_by o) g (input_by o b)) (text_for (mode_by o) g (input_by o b))

abbrev pub ended_by : RunSetup → List ℕ → Option Request → List ℕ
ended_by g b o = written_by o (text_for (mode_by o) g (input_by o b)) (ended_for (mode_by o) g (input_by o b))

pub status_in : (g : RunSetup) (b : List ℕ) (o : Option Request) → request_given g ≡ o → status_of g b ≡ status_by g b o
unfolding status_of input_status
status_in g b o e = ap (status_by g b) e

pub text_in : (g : RunSetup) (b : List ℕ) (o : Option Request) → request_given g ≡ o → text_of g b ≡ text_by g b o
unfolding text_of input_text
text_in g b o e = ap (text_by g b) e

pub ended_in : (g : RunSetup) (b : List ℕ) (o : Option Request) → request_given g ≡ o → ended_text_of g b ≡ ended_by g b o
unfolding ended_text_of input_text input_ended
ended_in g b o e = ap (ended_by g b) e

pub mode_has_status : (g : RunSetup) (b : List ℕ) (mode : Mode) (s : Status) → request_given g ≡ Some (Input mode) → OnEnd s (s ≡ job_status (task_with mode g.delegates) g.limit b)
    → OnEnd s (s ≡ status_of g b)
mode_has_status g b mode s e h =
    let P : Status → Type 0 = λ t. OnEnd s (s ≡ t) in subst P (sym (status_in g b (Some (Input mode)) e)) h

pub mode_has_text : (g : RunSetup) (b : List ℕ) (mode : Mode) (s : Status) (old new : Option (List ℕ)) → request_given g ≡ Some (Input mode)
    → OnEnd s (HasWritten old new (job_text (task_with mode g.delegates) g.limit b)) → OnEnd s (HasWritten old new (text_of g b))
mode_has_text g b mode s old new e h =
    let P : List ℕ → Type 0 = λ t. OnEnd s (HasWritten old new t) in subst P (sym (text_in g b (Some (Input mode)) e)) h

pub mode_cut_off : (g : RunSetup) (mode : Mode) (s : Status) (l0 l1 h0 h1 : Option (List ℕ)) → request_given g ≡ Some (Input mode)
    → CutOff (job_ended (task_with mode g.delegates) g.limit) (job_text (task_with mode g.delegates) g.limit) s l0 l1 h0 h1 → CutOff (ended_text_of g) (text_of g) s l0 l1 h0 h1
unfolding ended_text_of text_of input_text input_ended
mode_cut_off g mode s l0 l1 h0 h1 e h =
    let P : Option Request → Type 0 = λ o. CutOff (λ b. ended_by g b o) (λ b. text_by g b o) s l0 l1 h0 h1 in subst P (sym e) h

-- in a mode that takes the source's bytes, its text is that of the job over them
pub input_has_status : (g : RunSetup) (b : List ℕ) (mode : Mode) (s : Status) → request_given g ≡ Some (Input mode) → OnEnd s (s ≡ job_status (task_with mode g.delegates) g.limit b)
    → OnEnd s (s ≡ input_status g b)
unfolding input_status
input_has_status g b mode s e h =
    let P : Option Request → Type 0 = λ o. OnEnd s (s ≡ status_for (mode_by o) g b) in subst P (sym e) h

pub input_has_text : (g : RunSetup) (b : List ℕ) (mode : Mode) (s : Status) (old new : Option (List ℕ)) → request_given g ≡ Some (Input mode)
    → OnEnd s (HasWritten old new (job_text (task_with mode g.delegates) g.limit b)) → OnEnd s (HasWritten old new (input_text g b))
unfolding input_text
input_has_text g b mode s old new e h =
    let P : Option Request → Type 0 = λ o. OnEnd s (HasWritten old new (text_for (mode_by o) g b)) in subst P (sym e) h

pub text_input : (g : RunSetup) (b : List ℕ) (mode : Mode) → request_given g ≡ Some (Input mode) → text_of g b ≡ input_text g b
unfolding input_text
text_input g b mode e = text_in g b (Some (Input mode)) e ∙ ap (λ o. text_for (mode_by o) g b) (sym e)

pub ended_input : (g : RunSetup) (b : List ℕ) (mode : Mode) → request_given g ≡ Some (Input mode) → ended_text_of g b ≡ input_ended g b
unfolding input_ended
ended_input g b mode e = ended_in g b (Some (Input mode)) e ∙ ap (λ o. ended_for (mode_by o) g b) (sym e)

pub bad_words_status : (g : RunSetup) (b : List ℕ) → request_given g ≡ None → BadWords ≡ status_of g b
bad_words_status g b e = sym (status_in g b None e)

pub bad_words_text : (g : RunSetup) (b : List ℕ) (held : Option (List ℕ)) → request_given g ≡ None → HasWritten held held (text_of g b)
bad_words_text g b held e =
    let P : List ℕ → Type 0 = λ t. HasWritten held held t in subst P (sym (text_in g b None e)) (written_none held)

-- ---- by the words

-- the command is one whose faults and matches are exact
is_exact : is_simple_and_free command_line ≡ true
unfolding command_line clap_on_literals
is_exact = refl

is_plain : is_simple command_line ≡ true
unfolding command_line clap_on_literals
is_plain = refl

pub faults_of : (a : App) (words : List (List ℕ)) → a ≡ command_line → (is_simple_and_free a ≡ true → fault_of a words ≡ []) → fault_of command_line words ≡ []
faults_of a words e k = ap (λ x. fault_of x words) (sym e) ∙ k (ap is_simple_and_free e ∙ is_exact)

pub rows_are : (a : App) (words : List (List ℕ)) (rows : List Row) {X : Type 0} → a ≡ command_line → (is_simple a ≡ true → (rows ≡ matches_of a words) × X)
    → rows ≡ matches_of command_line words
rows_are a words rows e k = (k (ap is_simple e ∙ is_plain)).0 ∙ ap (λ x. matches_of x words) e

-- an error that isn't want of memory has a kind among the faults
no_request : (kinds : Kinds) (rows : List Row) (e : Error) → HasKind kinds e → (kind_of e ≡ OutOfMemory → ⊥) → request_by kinds rows ≡ None
no_request [] rows e (inl memory) other = absurd (other memory)
no_request [] rows e (inr among) other = absurd among
no_request (kind ∷ kinds) rows e has other = refl

pub refused_words : (a : App) (words : List (List ℕ)) (e : Error) → a ≡ command_line → (is_simple_and_free a ≡ true → HasKind (fault_of a words) e)
    → (kind_of e ≡ OutOfMemory → ⊥) → request_of words ≡ None
unfolding request_of
refused_words a words e is k other =
    let P : App → Type 0 = λ x. HasKind (fault_of x words) e in
    no_request (fault_of command_line words) (matches_of command_line words) e (subst P is (k (ap is_simple_and_free is ∙ is_exact))) other

pub accepted_words : (words : List (List ℕ)) (rows : List Row) → fault_of command_line words ≡ [] → rows ≡ matches_of command_line words
    → request_of words ≡ request_by [] rows
unfolding request_of
accepted_words words rows none same = ap₂ request_by none (sym same)
