-- What a run answers to the bytes that it read, whether or not the source tells its bytes: as if these were all that one has
-- that tells them.
use Rattle.std.proofs.Common.{◌≡◌, ℕ, ◌-◌, ◌≤◌, List, [], ◌++◌, Option, Some, None, refl, ap, sym, subst, append-nil}
use Rattle.fx_outside.specs.Told.{HasRead, HasWritten}
use Rattle.fx_outside.proofs.Joined.{read_none, read_more}
use Rattle.frame_run.specs.Lines.{last_line}
use Rattle.frame_run.specs.Reads.{HasRun, EndsRead}
use Rattle.frame_run.specs.Run.{Answered}
use Rattle.frame_run.specs.Status.{OnEnd}
use Rattle.frame_run.specs.Text.{after_last, last_text, end_status, job_text, job_status, At, input_status, input_text, status_of, text_of}
use Rattle.frame_run.specs.Words.{RunSetup, Task, task_with, request_given}
use Rattle.frame_run.specs.declared.words.Mode.{Mode}
use Rattle.frame_run.specs.declared.words.Request.{Request}
use Rattle.frame_run.specs.declared.words.Request.TheVariants.{Input}
use Rattle.frame_run.specs.declared.status.Status.{Status}
use Rattle.frame_run.specs.declared.status.Status.TheVariants as status
use Rattle.frame_run.proofs.RunLemmas.{place_of, end_status_told, end_text_told, read_status_told, read_text_told}
use Rattle.frame_run.proofs.WordsLemmas.{status_by, text_by, bad_words_status, bad_words_text}

-- the same run over a source that has what was read, and then this
abbrev seen_run : (task : Task) (l0 l1 h0 h1 : Option (List ℕ)) (job : At → List ℕ → Type 0) (n : ℕ) (run : HasRun task l0 l1 h0 h1 job n) (x : List ℕ)
    → HasRun task (Some (run.bytes ++ x)) (Some x) h0 h1 job n
seen_run task l0 l1 h0 h1 job n run x =
    record { bytes = run.bytes; read = refl; counted = run.counted; stands = run.stands; written = run.written }

abbrev pub end_answered : (task : Task) (limit : ℕ) (l0 l1 l2 h0 h1 h2 : Option (List ℕ)) (job : At → List ℕ → Type 0) (n : ℕ) (s : Status) (run : HasRun task l0 l1 h0 h1 job n) → n ≤ limit
    → l2 ≡ l1 → OnEnd s (s ≡ end_status (after_last (place_of task run.bytes) (last_line [] run.bytes)))
    → OnEnd s (HasWritten h1 h2 (last_text (place_of task run.bytes) (last_line [] run.bytes)))
    → Answered (job_status task limit) (job_text task limit) s l0 l2 h0 h2
end_answered task limit l0 l1 l2 h0 h1 h2 job n s run h same ends written =
    let P : Option (List ℕ) → Type 0 = λ l. HasRead l0 l run.bytes in
    let told : Some (run.bytes ++ []) ≡ Some run.bytes = ap Some (append-nil run.bytes) in
    let seen = seen_run task l0 l1 h0 h1 job n run [] in
    record {
      bytes = run.bytes;
      read = subst P (sym same) run.read;
      answer = end_status_told task limit (Some (run.bytes ++ [])) (Some []) h0 h1 job n run.bytes s seen h refl told ends;
      text = end_text_told task limit (Some (run.bytes ++ [])) (Some []) h0 h1 h2 job n run.bytes s seen h refl told written;
    }

abbrev pub read_answered : (task : Task) (limit room n : ℕ) (s : Status) (l0 l1 l2 h0 h1 h2 : Option (List ℕ)) (job : At → List ℕ → Type 0) (piece : List ℕ) (run : HasRun task l0 l1 h0 h1 job n)
    → n ≤ limit → room ≡ limit - n → HasRead l1 l2 piece → EndsRead s (place_of task run.bytes) (last_line [] run.bytes) room piece h1 h2
    → Answered (job_status task limit) (job_text task limit) s l0 l2 h0 h2
read_answered task limit room n s l0 l1 l2 h0 h1 h2 job piece run h room_is read ends =
    let last : HasRead (Some piece) (Some []) piece = ap Some (sym (append-nil piece)) in
    let seen = seen_run task l0 l1 h0 h1 job n run piece in
    record {
      bytes = run.bytes ++ piece;
      read = read_more l0 l1 l2 run.bytes piece run.read read;
      answer = read_status_told task limit room n s (Some (run.bytes ++ piece)) (Some piece) (Some []) h0 h1 h2 job piece (run.bytes ++ piece) seen h room_is last ends refl;
      text = read_text_told task limit room n s (Some (run.bytes ++ piece)) (Some piece) (Some []) h0 h1 h2 job piece (run.bytes ++ piece) seen h room_is last ends refl;
    }

-- a read fault cuts the run off
abbrev pub failed_answered : (task : Task) (limit : ℕ) (l0 l1 l2 h0 h1 h2 : Option (List ℕ)) (job : At → List ℕ → Type 0) (n : ℕ) → HasRun task l0 l1 h0 h1 job n → l2 ≡ l1
    → Answered (job_status task limit) (job_text task limit) status.ReadFault l0 l2 h0 h2
failed_answered task limit l0 l1 l2 h0 h1 h2 job n run same =
    let P : Option (List ℕ) → Type 0 = λ l. HasRead l0 l run.bytes in
    record { bytes = run.bytes; read = subst P (sym same) run.read; answer = tt; text = tt }

-- by the mode, and where there is none
pub mode_answered : (g : RunSetup) (mode : Mode) (s : Status) (l0 l1 h0 h1 : Option (List ℕ)) → request_given g ≡ Some (Input mode)
    → Answered (job_status (task_with mode g.delegates) g.limit) (job_text (task_with mode g.delegates) g.limit) s l0 l1 h0 h1 → Answered (status_of g) (text_of g) s l0 l1 h0 h1
unfolding status_of text_of input_status input_text
mode_answered g mode s l0 l1 h0 h1 e h =
    let P : Option Request → Type 0 = λ o. Answered (λ b. status_by g b o) (λ b. text_by g b o) s l0 l1 h0 h1 in subst P (sym e) h

pub bad_words_answered : (g : RunSetup) (left held : Option (List ℕ)) → request_given g ≡ None → Answered (status_of g) (text_of g) status.BadWords left left held held
bad_words_answered g left held e =
    record { bytes = []; read = read_none left; answer = bad_words_status g [] e; text = bad_words_text g [] held e }

pub unread_answered : (g : RunSetup) (left held : Option (List ℕ)) → Answered (status_of g) (text_of g) status.NoMemory left left held held
unread_answered g left held = record { bytes = []; read = read_none left; answer = tt; text = tt }
