-- What a run counted so far, after one more read, and at the end.
use Rattle.std.proofs.Common.{◌≡◌, ℕ, ◌+◌, ◌-◌, ◌≤◌, List, [], ◌++◌, length, take, drop, Option, Some, None, ap, sym, subst, append-nil, arith}
use Rattle.std.proofs.lemmas.List.{length-append, length-take, take-append-drop}
use Rattle.fx_outside.specs.Told.{HasRead, HasWritten, IsAtEnd}
use Rattle.fx_outside.proofs.Joined.{read_more}
use Rattle.work_sets.specs.Before.{Frames}
use Rattle.work_sets.specs.Work.{Work}
use Rattle.counted_work.specs.Known.{no_frames}
use Rattle.frame_run.specs.Demo.{demo_input}
use Rattle.frame_run.specs.Lines.{ended_lines, last_line}
use Rattle.frame_run.specs.Job.{Took}
use Rattle.frame_run.specs.Reads.{EndsRead}
use Rattle.frame_run.specs.Run.{Answered, AnsweredWithin}
use Rattle.frame_run.specs.Status.{OnEnd, OnMemory}
use Rattle.frame_run.specs.Text.{At, start, after_lines, lines_text, after_last, last_text, end_status, job_text, job_status, input_status, input_text, status_of, text_of}
use Rattle.frame_run.specs.Words.{RunSetup, Task, task_with, request_given, mode_by, input_by}
use Rattle.frame_run.specs.Work.{line_work, frames_after_lines, lines_work, job_work, work_for, input_work, work_of, RoseWithin}
use Rattle.frame_run.specs.Works.{WorksOn, RunWorks}
use Rattle.frame_run.specs.declared.input.InputTurn.TheVariants.{Goes}
use Rattle.frame_run.specs.declared.words.Mode.{Mode}
use Rattle.frame_run.specs.declared.words.Mode.TheVariants.{Run}
use Rattle.frame_run.specs.declared.words.Request.{Request}
use Rattle.frame_run.specs.declared.words.Request.TheVariants.{Input, Demo}
use Rattle.frame_run.specs.declared.status.Status.{Status}
use Rattle.frame_run.specs.declared.status.Status.TheVariants as status
use Rattle.frame_run.proofs.RunLemmas.{place_of, run_none, run_more, told_end, told_read, in_front}
use Rattle.frame_run.proofs.SeenLemmas.{end_answered, read_answered, failed_answered, bad_words_answered, unread_answered}
use Rattle.frame_run.proofs.StatusLemmas.{OnMemory-map}
use Rattle.frame_run.proofs.WordsLemmas.{status_by, text_by}
use Rattle.frame_run.proofs.WorkLemmas.{within_none, within_more, within_up, works_none, works_more, work_more, job_front, job_whole}

-- ---- so far

-- the frames that layouts left after the lines of some bytes
abbrev pub frames_of : Task → List ℕ → Frames
frames_of task r = frames_after_lines no_frames (start task) (ended_lines [] r)

pub run_works_none : (task : Task) (left held : Option (List ℕ)) (job : At → List ℕ → Type 0) (causes : Frames → At → Type 0) (u l p : ℕ) → job (start task) [] → causes no_frames (start task)
    → RunWorks task left left held held job causes 0 u u l l p p
run_works_none task left held job causes u l p stands caused =
    record { run = run_none task left held job stands; works = works_none job causes no_frames (start task) [] u l p stands caused }

pub run_works_more : (task : Task) (l0 l1 l2 h0 h1 h2 : Option (List ℕ)) (job next : At → List ℕ → Type 0) (causes later : Frames → At → Type 0) (piece : List ℕ) (n m bo bm bn lo lm ln po pm pn : ℕ)
    (so_far : RunWorks task l0 l1 h0 h1 job causes n bo bm lo lm po pm) → HasRead l1 l2 piece → m ≡ n + length piece
    → Took Goes next (after_lines (place_of task so_far.run.bytes) (ended_lines (last_line [] so_far.run.bytes) piece)) (last_line (last_line [] so_far.run.bytes) piece)
    h1 h2 (lines_text (place_of task so_far.run.bytes) (ended_lines (last_line [] so_far.run.bytes) piece))
    → WorksOn next later (frames_of task so_far.run.bytes) (place_of task so_far.run.bytes) (last_line [] so_far.run.bytes) piece bm bn lm ln pm pn
    → RunWorks task l0 l2 h0 h2 next later m bo bn lo ln po pn
run_works_more task l0 l1 l2 h0 h1 h2 job next causes later piece n m bo bm bn lo lm ln po pm pn so_far read sum took on = record {
  run = run_more task l0 l1 l2 h0 h1 h2 job next piece n m so_far.run read sum took;
  works = works_more next later no_frames (start task) [] so_far.run.bytes piece bo bm bn lo lm ln po pm pn so_far.works.within on;
}

-- ---- what was counted, against the work of the whole input

-- after a front of it that is within the limit
within_front : (task : Task) (limit : ℕ) (r x : List ℕ) (bo bn lo ln po pn : ℕ) → length r ≤ limit → RoseWithin (lines_work no_frames (start task) (ended_lines [] r)) bo bn lo ln po pn → RoseWithin (job_work task limit (r ++ x)) bo bn lo ln po pn
within_front task limit r x bo bn lo ln po pn h counted =
    within_up (lines_work no_frames (start task) (ended_lines [] r)) (job_work task limit (r ++ x)) bo bn lo ln po pn (job_front task limit r x h) counted

-- after its last line
within_last : (task : Task) (limit : ℕ) (r : List ℕ) (s : Status) (bo bm bn lo lm ln po pm pn : ℕ) → length r ≤ limit → RoseWithin (lines_work no_frames (start task) (ended_lines [] r)) bo bm lo lm po pm
    → OnMemory s (RoseWithin (line_work (frames_of task r) (place_of task r) (last_line [] r)) bm bn lm ln pm pn) → OnMemory s (RoseWithin (job_work task limit r) bo bn lo ln po pn)
within_last task limit r s bo bm bn lo lm ln po pm pn h so_far last =
    OnMemory-map s (RoseWithin (line_work (frames_of task r) (place_of task r) (last_line [] r)) bm bn lm ln pm pn) (RoseWithin (job_work task limit r) bo bn lo ln po pn)
    (λ (w : RoseWithin (line_work (frames_of task r) (place_of task r) (last_line [] r)) bm bn lm ln pm pn).
    within_more (lines_work no_frames (start task) (ended_lines [] r)) (line_work (frames_of task r) (place_of task r) (last_line [] r)) (job_work task limit r) bo bm bn lo lm ln po pm pn
    (job_whole task limit r h) so_far w) last

-- after a read that ends the run
within_read : (task : Task) (limit room : ℕ) (r piece x b : List ℕ) (s : Status) (bo bm bn lo lm ln po pm pn : ℕ) → room + length r ≡ limit → b ≡ (r ++ piece) ++ x
    → RoseWithin (lines_work no_frames (start task) (ended_lines [] r)) bo bm lo lm po pm
    → OnMemory s (RoseWithin (lines_work (frames_of task r) (place_of task r) (ended_lines (last_line [] r) (take room piece))) bm bn lm ln pm pn) → OnMemory s (RoseWithin (job_work task limit b) bo bn lo ln po pn)
within_read task limit room r piece x b s bo bm bn lo lm ln po pm pn sum is so_far read =
    let front = take room piece in
    let more = drop room piece in
    let here = lines_work (frames_of task r) (place_of task r) (ended_lines (last_line [] r) front) in
    let fits : length (r ++ front) ≤ limit = omega (arith, length-append r front, length-take room piece) in
    let whole : b ≡ (r ++ front) ++ (more ++ x) = in_front r piece front more x b is (sym (take-append-drop room piece)) in
    let W : List ℕ → Type 0 = λ t. RoseWithin (job_work task limit t) bo bn lo ln po pn in
    OnMemory-map s (RoseWithin here bm bn lm ln pm pn) (RoseWithin (job_work task limit b) bo bn lo ln po pn)
    (λ (w : RoseWithin here bm bn lm ln pm pn). subst W (sym whole)
    (within_front task limit (r ++ front) (more ++ x) bo bn lo ln po pn fits
    (within_more (lines_work no_frames (start task) (ended_lines [] r)) here (lines_work no_frames (start task) (ended_lines [] (r ++ front))) bo bm bn lo lm ln po pm pn
    (work_more no_frames (start task) [] r front) so_far w))) read

-- ---- of a source that tells its bytes

pub end_work_told : (task : Task) (limit : ℕ) (l0 l1 h0 h1 : Option (List ℕ)) (job : At → List ℕ → Type 0) (causes : Frames → At → Type 0) (n : ℕ) (b : List ℕ) (s : Status) (bo bm bn lo lm ln po pm pn : ℕ)
    (so_far : RunWorks task l0 l1 h0 h1 job causes n bo bm lo lm po pm) → n ≤ limit → IsAtEnd l1 → l0 ≡ Some b
    → OnMemory s (RoseWithin (line_work (frames_of task so_far.run.bytes) (place_of task so_far.run.bytes) (last_line [] so_far.run.bytes)) bm bn lm ln pm pn) → OnMemory s (RoseWithin (job_work task limit b) bo bn lo ln po pn)
end_work_told task limit l0 l1 h0 h1 job causes n b s bo bm bn lo lm ln po pm pn so_far h at_end told last =
    let r = so_far.run.bytes in
    let e : b ≡ r = told_end l0 l1 r b so_far.run.read at_end told in
    let fits : length r ≤ limit = omega (arith, so_far.run.counted) in
    let W : List ℕ → Type 0 = λ t. OnMemory s (RoseWithin (job_work task limit t) bo bn lo ln po pn) in
    subst W (sym e) (within_last task limit r s bo bm bn lo lm ln po pm pn fits so_far.works.within last)

pub read_work_told : (task : Task) (limit room : ℕ) (l0 l1 l2 h0 h1 : Option (List ℕ)) (job : At → List ℕ → Type 0) (causes : Frames → At → Type 0) (n : ℕ) (piece b : List ℕ) (s : Status) (bo bm bn lo lm ln po pm pn : ℕ)
    (so_far : RunWorks task l0 l1 h0 h1 job causes n bo bm lo lm po pm) → n ≤ limit → room ≡ limit - n → HasRead l1 l2 piece → l0 ≡ Some b
    → OnMemory s (RoseWithin (lines_work (frames_of task so_far.run.bytes) (place_of task so_far.run.bytes) (ended_lines (last_line [] so_far.run.bytes) (take room piece))) bm bn lm ln pm pn)
    → OnMemory s (RoseWithin (job_work task limit b) bo bn lo ln po pn)
read_work_told task limit room l0 l1 l2 h0 h1 job causes n piece b s bo bm bn lo lm ln po pm pn so_far h room_is read told works =
    let r = so_far.run.bytes in
    let t = told_read l0 l2 (r ++ piece) b (read_more l0 l1 l2 r piece so_far.run.read read) told in
    let sum : room + length r ≡ limit = omega (arith, so_far.run.counted) in
    within_read task limit room r piece t.0 b s bo bm bn lo lm ln po pm pn sum t.1 so_far.works.within works

pub failed_work_told : (task : Task) (limit : ℕ) (l0 l1 h0 h1 : Option (List ℕ)) (job : At → List ℕ → Type 0) (causes : Frames → At → Type 0) (n : ℕ) (b : List ℕ) (bo bn lo ln po pn : ℕ)
    (so_far : RunWorks task l0 l1 h0 h1 job causes n bo bn lo ln po pn) → n ≤ limit → l0 ≡ Some b → RoseWithin (job_work task limit b) bo bn lo ln po pn
failed_work_told task limit l0 l1 h0 h1 job causes n b bo bn lo ln po pn so_far h told =
    let r = so_far.run.bytes in
    let t = told_read l0 l1 r b so_far.run.read told in
    let fits : length r ≤ limit = omega (arith, so_far.run.counted) in
    let W : List ℕ → Type 0 = λ x. RoseWithin (job_work task limit x) bo bn lo ln po pn in
    subst W (sym t.1) (within_front task limit r t.0 bo bn lo ln po pn fits so_far.works.within)

-- ---- whether or not it tells them

pub end_worked : (task : Task) (limit : ℕ) (l0 l1 l2 h0 h1 h2 : Option (List ℕ)) (job : At → List ℕ → Type 0) (causes : Frames → At → Type 0) (n : ℕ) (s : Status) (bo bm bn lo lm ln po pm pn : ℕ)
    (so_far : RunWorks task l0 l1 h0 h1 job causes n bo bm lo lm po pm) → n ≤ limit → l2 ≡ l1
    → OnEnd s (s ≡ end_status (after_last (place_of task so_far.run.bytes) (last_line [] so_far.run.bytes)))
    → OnEnd s (HasWritten h1 h2 (last_text (place_of task so_far.run.bytes) (last_line [] so_far.run.bytes)))
    → OnMemory s (RoseWithin (line_work (frames_of task so_far.run.bytes) (place_of task so_far.run.bytes) (last_line [] so_far.run.bytes)) bm bn lm ln pm pn)
    → AnsweredWithin (job_status task limit) (job_text task limit) (job_work task limit) s l0 l2 h0 h2 bo bn lo ln po pn
end_worked task limit l0 l1 l2 h0 h1 h2 job causes n s bo bm bn lo lm ln po pm pn so_far h same ends written last =
    let fits : length so_far.run.bytes ≤ limit = omega (arith, so_far.run.counted) in
    record {
      answered = end_answered task limit l0 l1 l2 h0 h1 h2 job n s so_far.run h same ends written;
      within = within_last task limit so_far.run.bytes s bo bm bn lo lm ln po pm pn fits so_far.works.within last;
    }

pub read_worked : (task : Task) (limit room n : ℕ) (s : Status) (l0 l1 l2 h0 h1 h2 : Option (List ℕ)) (job : At → List ℕ → Type 0) (causes : Frames → At → Type 0) (piece : List ℕ) (bo bm bn lo lm ln po pm pn : ℕ)
    (so_far : RunWorks task l0 l1 h0 h1 job causes n bo bm lo lm po pm) → n ≤ limit → room ≡ limit - n → HasRead l1 l2 piece
    → EndsRead s (place_of task so_far.run.bytes) (last_line [] so_far.run.bytes) room piece h1 h2
    → OnMemory s (RoseWithin (lines_work (frames_of task so_far.run.bytes) (place_of task so_far.run.bytes) (ended_lines (last_line [] so_far.run.bytes) (take room piece))) bm bn lm ln pm pn)
    → AnsweredWithin (job_status task limit) (job_text task limit) (job_work task limit) s l0 l2 h0 h2 bo bn lo ln po pn
read_worked task limit room n s l0 l1 l2 h0 h1 h2 job causes piece bo bm bn lo lm ln po pm pn so_far h room_is read ends works =
    let r = so_far.run.bytes in
    let sum : room + length r ≡ limit = omega (arith, so_far.run.counted) in
    record {
      answered = read_answered task limit room n s l0 l1 l2 h0 h1 h2 job piece so_far.run h room_is read ends;
      within = within_read task limit room r piece [] (r ++ piece) s bo bm bn lo lm ln po pm pn sum (sym (append-nil (r ++ piece))) so_far.works.within works;
    }

pub failed_worked : (task : Task) (limit : ℕ) (l0 l1 l2 h0 h1 : Option (List ℕ)) (job : At → List ℕ → Type 0) (causes : Frames → At → Type 0) (n bo bn lo ln po pn : ℕ)
    (so_far : RunWorks task l0 l1 h0 h1 job causes n bo bn lo ln po pn) → n ≤ limit → l2 ≡ l1
    → AnsweredWithin (job_status task limit) (job_text task limit) (job_work task limit) status.ReadFault l0 l2 h0 h1 bo bn lo ln po pn
failed_worked task limit l0 l1 l2 h0 h1 job causes n bo bn lo ln po pn so_far h same =
    let r = so_far.run.bytes in
    let fits : length r ≤ limit = omega (arith, so_far.run.counted) in
    let W : List ℕ → Type 0 = λ t. RoseWithin (job_work task limit t) bo bn lo ln po pn in
    record {
      answered = failed_answered task limit l0 l1 l2 h0 h1 h1 job n so_far.run same;
      within = subst W (append-nil r) (within_front task limit r [] bo bn lo ln po pn fits so_far.works.within);
    }

-- ---- by what the words ask for

abbrev pub work_by : RunSetup → List ℕ → Option Request → Work
work_by g b o = work_for (mode_by o) g (input_by o b)

pub work_in : (g : RunSetup) (b : List ℕ) (o : Option Request) → request_given g ≡ o → work_of g b ≡ work_by g b o
unfolding work_of input_work
work_in g b o e = ap (work_by g b) e

pub mode_has_work : (g : RunSetup) (b : List ℕ) (mode : Mode) (s : Status) (bo bn lo ln po pn : ℕ) → request_given g ≡ Some (Input mode) → OnMemory s (RoseWithin (job_work (task_with mode g.delegates) g.limit b) bo bn lo ln po pn)
    → OnMemory s (RoseWithin (work_of g b) bo bn lo ln po pn)
mode_has_work g b mode s bo bn lo ln po pn e h =
    let P : Work → Type 0 = λ w. OnMemory s (RoseWithin w bo bn lo ln po pn) in subst P (sym (work_in g b (Some (Input mode)) e)) h

pub mode_worked : (g : RunSetup) (mode : Mode) (s : Status) (l0 l1 h0 h1 : Option (List ℕ)) (bo bn lo ln po pn : ℕ) → request_given g ≡ Some (Input mode)
    → AnsweredWithin (job_status (task_with mode g.delegates) g.limit) (job_text (task_with mode g.delegates) g.limit) (job_work (task_with mode g.delegates) g.limit) s l0 l1 h0 h1 bo bn lo ln po pn
    → AnsweredWithin (status_of g) (text_of g) (work_of g) s l0 l1 h0 h1 bo bn lo ln po pn
unfolding status_of text_of input_status input_text work_of input_work
mode_worked g mode s l0 l1 h0 h1 bo bn lo ln po pn e h =
    let P : Option Request → Type 0 = λ o. AnsweredWithin (λ b. status_by g b o) (λ b. text_by g b o) (λ b. work_by g b o) s l0 l1 h0 h1 bo bn lo ln po pn in subst P (sym e) h

-- mode `demo`, on its own input
abbrev demo_work : RunSetup → ℕ → ℕ → Work
demo_work g seed size = job_work (task_with Run g.delegates) g.limit (demo_input seed size)

pub demo_has_work : (g : RunSetup) (b : List ℕ) (seed size : ℕ) (s : Status) (bo bn lo ln po pn : ℕ) → request_given g ≡ Some (Demo seed size) → OnMemory s (RoseWithin (demo_work g seed size) bo bn lo ln po pn)
    → OnMemory s (RoseWithin (work_of g b) bo bn lo ln po pn)
demo_has_work g b seed size s bo bn lo ln po pn e h =
    let P : Work → Type 0 = λ w. OnMemory s (RoseWithin w bo bn lo ln po pn) in subst P (sym (work_in g b (Some (Demo seed size)) e)) h

pub demo_worked : (g : RunSetup) (seed size : ℕ) (s : Status) (l0 l1 h0 h1 : Option (List ℕ)) (bo bn lo ln po pn : ℕ) → request_given g ≡ Some (Demo seed size)
    → Answered (status_of g) (text_of g) s l0 l1 h0 h1 → OnMemory s (RoseWithin (demo_work g seed size) bo bn lo ln po pn) → AnsweredWithin (status_of g) (text_of g) (work_of g) s l0 l1 h0 h1 bo bn lo ln po pn
demo_worked g seed size s l0 l1 h0 h1 bo bn lo ln po pn e answered h =
    record { answered = answered; within = demo_has_work g answered.bytes seed size s bo bn lo ln po pn e h }

-- refused words, and no memory for the words
pub bad_words_work : (g : RunSetup) (b : List ℕ) (u l p : ℕ) → RoseWithin (work_of g b) u u l l p p
bad_words_work g b u l p = within_none (work_of g b) u l p

pub bad_words_worked : (g : RunSetup) (left held : Option (List ℕ)) (u l p : ℕ) → request_given g ≡ None → AnsweredWithin (status_of g) (text_of g) (work_of g) status.BadWords left left held held u u l l p p
bad_words_worked g left held u l p e =
    let answered = bad_words_answered g left held e in record { answered = answered; within = within_none (work_of g answered.bytes) u l p }

pub unread_worked : (g : RunSetup) (left held : Option (List ℕ)) (u l p : ℕ) → AnsweredWithin (status_of g) (text_of g) (work_of g) status.NoMemory left left held held u u l l p p
unread_worked g left held u l p = record { answered = unread_answered g left held; within = tt }
