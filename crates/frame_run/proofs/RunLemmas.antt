-- A run so far, one more read, and the end.
use Rattle.std.proofs.Common.{◌≡◌, ℕ, ◌+◌, ◌-◌, ◌≤◌, inl, inr, List, [], ◌++◌, length, Option, Some, None, refl, ap, sym, subst, ◌∙◌, append_assoc, append-nil, arith}
use Rattle.std.proofs.lemmas.List.{length-append}
use Rattle.fx_outside.specs.Told.{HasRead, HasWritten, IsAtEnd, HasPart}
use Rattle.fx_outside.proofs.Joined.{read_none, read_more, written_none, written_more, part_next, part_longer}
use Rattle.frame_run.specs.Lines.{ended_lines, last_line}
use Rattle.frame_run.specs.Status.{OnEnd}
use Rattle.frame_run.specs.Text.{At, start, after_lines, lines_text, after_last, last_text, end_status, over_status, job_ended, job_text, job_status}
use Rattle.frame_run.specs.Job.{Took}
use Rattle.frame_run.specs.Reads.{HasRun, IsOver, EndsRead}
use Rattle.frame_run.specs.Run.{IsCutOff, CutOff}
use Rattle.frame_run.specs.declared.input.InputTurn.TheVariants.{Goes}
use Rattle.frame_run.specs.Words.{Task}
use Rattle.frame_run.specs.declared.status.Status.{Status}
use Rattle.frame_run.specs.declared.status.Status.TheVariants as status
use Rattle.frame_run.proofs.LinesLemmas.{after_more, text_more, last_line-append}
use Rattle.frame_run.proofs.LimitLemmas.{ended_text-front, stopped_run_status, stopped_run_text, over_run_status, over_run_text, ended_text-all, end_run_status, end_run_text}
use Rattle.frame_run.proofs.StatusLemmas.{OnEnd-map, OnEnd-both}

-- where the lines of some bytes leave a run
abbrev pub place_of : Task → List ℕ → At
place_of task r = after_lines (start task) (ended_lines [] r)

abbrev pub run_none : (task : Task) (left held : Option (List ℕ)) (job : At → List ℕ → Type 0) → job (start task) [] → HasRun task left left held held job 0
run_none task left held job stands =
    record { bytes = []; read = read_none left; counted = refl; stands = stands; written = written_none held }

abbrev pub run_more : (task : Task) (l0 l1 l2 h0 h1 h2 : Option (List ℕ)) (job next : At → List ℕ → Type 0) (piece : List ℕ) (n m : ℕ) (run : HasRun task l0 l1 h0 h1 job n)
    → HasRead l1 l2 piece → m ≡ n + length piece
    → Took Goes next (after_lines (place_of task run.bytes) (ended_lines (last_line [] run.bytes) piece)) (last_line (last_line [] run.bytes) piece)
    h1 h2 (lines_text (place_of task run.bytes) (ended_lines (last_line [] run.bytes) piece))
    → HasRun task l0 l2 h0 h2 next m
run_more task l0 l1 l2 h0 h1 h2 job next piece n m run read sum took =
    let P : At → Type 0 = λ at. next at (last_line [] (run.bytes ++ piece)) in
    let Q : List ℕ → Type 0 = λ raw. next (after_lines (place_of task run.bytes) (ended_lines (last_line [] run.bytes) piece)) raw in
    let R : List ℕ → Type 0 = λ t. HasWritten h0 h2 t in
    record {
      bytes = run.bytes ++ piece;
      read = read_more l0 l1 l2 run.bytes piece run.read read;
      counted = length-append run.bytes piece ∙ ap (λ k. k + length piece) run.counted ∙ sym sum;
      stands = subst P (sym (after_more (start task) [] run.bytes piece)) (subst Q (sym (last_line-append [] run.bytes piece)) took.lands);
      written = subst R (sym (text_more (start task) [] run.bytes piece)) (written_more h0 h1 h2 _ _ run.written took.all);
    }

-- the bytes of a source that tells them, at its end and before
pub told_end : (l0 l1 : Option (List ℕ)) (r b : List ℕ) → HasRead l0 l1 r → IsAtEnd l1 → l0 ≡ Some b → b ≡ r
told_end l0 None r b read at_end told = cc
told_end l0 (Some x) r b read at_end told =
    let e : Some b ≡ Some (r ++ x) = sym told ∙ read in
    let f : b ≡ r ++ x = cc in f ∙ ap (λ t. r ++ t) at_end ∙ append-nil r

pub told_read : (l0 l1 : Option (List ℕ)) (r b : List ℕ) → HasRead l0 l1 r → l0 ≡ Some b → (x : List ℕ) × (b ≡ r ++ x)
told_read l0 None r b read told = cc
told_read l0 (Some x) r b read told = let e : Some b ≡ Some (r ++ x) = sym told ∙ read in (x, cc)

-- the end of the input
pub end_status_told : (task : Task) (limit : ℕ) (l0 l1 h0 h1 : Option (List ℕ)) (job : At → List ℕ → Type 0) (n : ℕ) (b : List ℕ) (s : Status) (run : HasRun task l0 l1 h0 h1 job n) → n ≤ limit
    → IsAtEnd l1 → l0 ≡ Some b → OnEnd s (s ≡ end_status (after_last (place_of task run.bytes) (last_line [] run.bytes))) → OnEnd s (s ≡ job_status task limit b)
end_status_told task limit l0 l1 h0 h1 job n b s run h at_end told ends =
    let e : b ≡ run.bytes = told_end l0 l1 run.bytes b run.read at_end told in
    let fits : length run.bytes ≤ limit = omega (arith, run.counted) in
    OnEnd-map s _ _ (λ (x : s ≡ end_status (after_last (place_of task run.bytes) (last_line [] run.bytes))).
    x ∙ sym (ap (job_status task limit) e ∙ end_run_status task limit run.bytes fits)) ends

pub end_text_told : (task : Task) (limit : ℕ) (l0 l1 h0 h1 h2 : Option (List ℕ)) (job : At → List ℕ → Type 0) (n : ℕ) (b : List ℕ) (s : Status) (run : HasRun task l0 l1 h0 h1 job n) → n ≤ limit
    → IsAtEnd l1 → l0 ≡ Some b → OnEnd s (HasWritten h1 h2 (last_text (place_of task run.bytes) (last_line [] run.bytes))) → OnEnd s (HasWritten h0 h2 (job_text task limit b))
end_text_told task limit l0 l1 h0 h1 h2 job n b s run h at_end told ends =
    let e : b ≡ run.bytes = told_end l0 l1 run.bytes b run.read at_end told in
    let fits : length run.bytes ≤ limit = omega (arith, run.counted) in
    let P : List ℕ → Type 0 = λ t. HasWritten h0 h2 t in
    OnEnd-map s _ _ (λ (x : HasWritten h1 h2 (last_text (place_of task run.bytes) (last_line [] run.bytes))).
    subst P (sym (ap (job_text task limit) e ∙ end_run_text task limit run.bytes fits)) (written_more h0 h1 h2 _ _ run.written x)) ends

cut_at_end : (ended whole : List ℕ → List ℕ) (s : Status) (left old new : Option (List ℕ)) (r : List ℕ) → (s ≡ status.ReadFault → ⊥) → IsAtEnd left
    → HasPart old new (whole r) → IsCutOff ended whole s left old new r
cut_at_end ended whole status.ReadFault left old new r never at_end part = absurd (never refl)
cut_at_end ended whole status.WriteFault left old new r never at_end part = inr (at_end, part)
cut_at_end ended whole status.NoMemory left old new r never at_end part = inr (at_end, part)
cut_at_end ended whole status.AllAccepted left old new r never at_end part = tt
cut_at_end ended whole status.SomeRefused left old new r never at_end part = tt
cut_at_end ended whole status.BadWords left old new r never at_end part = tt
cut_at_end ended whole status.BadProgram left old new r never at_end part = tt
cut_at_end ended whole status.FrameFault left old new r never at_end part = tt
cut_at_end ended whole status.TooLong left old new r never at_end part = tt

pub cut_before : (ended whole : List ℕ → List ℕ) (s : Status) (left old new : Option (List ℕ)) (r : List ℕ) → (s ≡ status.ReadFault → ⊥)
    → HasPart old new (ended r) → IsCutOff ended whole s left old new r
cut_before ended whole status.ReadFault left old new r never part = absurd (never refl)
cut_before ended whole status.WriteFault left old new r never part = inl part
cut_before ended whole status.NoMemory left old new r never part = inl part
cut_before ended whole status.AllAccepted left old new r never part = tt
cut_before ended whole status.SomeRefused left old new r never part = tt
cut_before ended whole status.BadWords left old new r never part = tt
cut_before ended whole status.BadProgram left old new r never part = tt
cut_before ended whole status.FrameFault left old new r never part = tt
cut_before ended whole status.TooLong left old new r never part = tt

pub end_cut : (task : Task) (limit : ℕ) (l0 l1 l2 h0 h1 h2 : Option (List ℕ)) (job : At → List ℕ → Type 0) (n : ℕ) (s : Status) (run : HasRun task l0 l1 h0 h1 job n) → n ≤ limit
    → l2 ≡ l1 → IsAtEnd l1 → (s ≡ status.ReadFault → ⊥) → HasPart h1 h2 (last_text (place_of task run.bytes) (last_line [] run.bytes)) → CutOff (job_ended task limit) (job_text task limit) s l0 l2 h0 h2
end_cut task limit l0 l1 l2 h0 h1 h2 job n s run h same at_end never part =
    let fits : length run.bytes ≤ limit = omega (arith, run.counted) in
    let P : Option (List ℕ) → Type 0 = λ l. HasRead l0 l run.bytes in
    let Q : Option (List ℕ) → Type 0 = λ l. IsAtEnd l in
    let R : List ℕ → Type 0 = λ t. HasPart h0 h2 t in
    record {
      bytes = run.bytes;
      read = subst P (sym same) run.read;
      part = cut_at_end (job_ended task limit) (job_text task limit) s l2 h0 h2 run.bytes never (subst Q (sym same) at_end)
          (subst R (sym (end_run_text task limit run.bytes fits)) (part_next h0 h1 h2 _ _ run.written part));
    }

-- a read fault
pub failed_cut : (task : Task) (limit : ℕ) (l0 l1 l2 h0 h1 : Option (List ℕ)) (job : At → List ℕ → Type 0) (n : ℕ) → HasRun task l0 l1 h0 h1 job n → n ≤ limit → l2 ≡ l1
    → CutOff (job_ended task limit) (job_text task limit) status.ReadFault l0 l2 h0 h1
failed_cut task limit l0 l1 l2 h0 h1 job n run h same =
    let fits : length run.bytes ≤ limit = omega (arith, run.counted) in
    let P : Option (List ℕ) → Type 0 = λ l. HasRead l0 l run.bytes in
    let R : List ℕ → Type 0 = λ t. HasWritten h0 h1 t in
    record {
      bytes = run.bytes;
      read = subst P (sym same) run.read;
      part = subst R (sym (ended_text-all task limit run.bytes fits)) run.written;
    }

-- the run is over after a front of a piece, whatever comes after it
over_is : (task : Task) (limit room : ℕ) (r front more x : List ℕ) → room + length r ≡ limit → length front ≤ room
    → IsOver (after_lines (place_of task r) (ended_lines (last_line [] r) front)) room front more
    → job_status task limit ((r ++ front) ++ (more ++ x)) ≡ over_status (after_lines (place_of task r) (ended_lines (last_line [] r) front))
over_is task limit room r front more x sum fits (inl (stop, at)) =
    stopped_run_status task limit (r ++ front) (more ++ x) stop (omega (arith, length-append r front)) (after_more (start task) [] r front ∙ at)
    ∙ ap over_status (after_more (start task) [] r front)
over_is task limit room r front more x sum fits (inr (full, some)) =
    over_run_status task limit (r ++ front) (more ++ x) (omega (arith, length-append r front)) (omega (arith, length-append more x))
    ∙ ap over_status (after_more (start task) [] r front)

over_text_is : (task : Task) (limit room : ℕ) (r front more x : List ℕ) → room + length r ≡ limit → length front ≤ room
    → IsOver (after_lines (place_of task r) (ended_lines (last_line [] r) front)) room front more
    → job_text task limit ((r ++ front) ++ (more ++ x)) ≡ lines_text (start task) (ended_lines [] (r ++ front))
over_text_is task limit room r front more x sum fits (inl (stop, at)) =
    stopped_run_text task limit (r ++ front) (more ++ x) stop (omega (arith, length-append r front)) (after_more (start task) [] r front ∙ at)
over_text_is task limit room r front more x sum fits (inr (full, some)) =
    over_run_text task limit (r ++ front) (more ++ x) (omega (arith, length-append r front)) (omega (arith, length-append more x))

pub in_front : (r piece front more x b : List ℕ) → b ≡ (r ++ piece) ++ x → piece ≡ front ++ more → b ≡ (r ++ front) ++ (more ++ x)
in_front r piece front more x b e sum =
    e ∙ ap (λ t. (r ++ t) ++ x) sum ∙ ap (λ t. t ++ x) (sym (append_assoc r front more)) ∙ append_assoc (r ++ front) more x

-- a read that ends the run
pub read_status_told : (task : Task) (limit room n : ℕ) (s : Status) (l0 l1 l2 h0 h1 h2 : Option (List ℕ)) (job : At → List ℕ → Type 0) (piece b : List ℕ) (run : HasRun task l0 l1 h0 h1 job n)
    → n ≤ limit → room ≡ limit - n → HasRead l1 l2 piece → EndsRead s (place_of task run.bytes) (last_line [] run.bytes) room piece h1 h2 → l0 ≡ Some b
    → OnEnd s (s ≡ job_status task limit b)
read_status_told task limit room n s l0 l1 l2 h0 h1 h2 job piece b run h room_is read ends told =
    let t = told_read l0 l2 (run.bytes ++ piece) b (read_more l0 l1 l2 run.bytes piece run.read read) told in
    let here = after_lines (place_of task run.bytes) (ended_lines (last_line [] run.bytes) ends.front) in
    let sum : room + length run.bytes ≡ limit = omega (arith, run.counted) in
    let e = in_front run.bytes piece ends.front ends.more t.0 b t.1 ends.sum in
    OnEnd-map s (IsOver here room ends.front ends.more × (s ≡ over_status here)) _
    (λ (p : IsOver here room ends.front ends.more × (s ≡ over_status here)).
    p.1 ∙ sym (ap (job_status task limit) e ∙ over_is task limit room run.bytes ends.front ends.more t.0 sum ends.fits p.0))
    (OnEnd-both s _ _ ends.over ends.answer)

pub read_text_told : (task : Task) (limit room n : ℕ) (s : Status) (l0 l1 l2 h0 h1 h2 : Option (List ℕ)) (job : At → List ℕ → Type 0) (piece b : List ℕ) (run : HasRun task l0 l1 h0 h1 job n)
    → n ≤ limit → room ≡ limit - n → HasRead l1 l2 piece → EndsRead s (place_of task run.bytes) (last_line [] run.bytes) room piece h1 h2 → l0 ≡ Some b
    → OnEnd s (HasWritten h0 h2 (job_text task limit b))
read_text_told task limit room n s l0 l1 l2 h0 h1 h2 job piece b run h room_is read ends told =
    let t = told_read l0 l2 (run.bytes ++ piece) b (read_more l0 l1 l2 run.bytes piece run.read read) told in
    let here = after_lines (place_of task run.bytes) (ended_lines (last_line [] run.bytes) ends.front) in
    let text = lines_text (place_of task run.bytes) (ended_lines (last_line [] run.bytes) ends.front) in
    let sum : room + length run.bytes ≡ limit = omega (arith, run.counted) in
    let e = in_front run.bytes piece ends.front ends.more t.0 b t.1 ends.sum in
    let P : List ℕ → Type 0 = λ w. HasWritten h0 h2 w in
    OnEnd-map s (IsOver here room ends.front ends.more × HasWritten h1 h2 text) _
    (λ (p : IsOver here room ends.front ends.more × HasWritten h1 h2 text).
    subst P (sym (ap (job_text task limit) e ∙ over_text_is task limit room run.bytes ends.front ends.more t.0 sum ends.fits p.0 ∙ text_more (start task) [] run.bytes ends.front))
    (written_more h0 h1 h2 _ text run.written p.1))
    (OnEnd-both s _ _ ends.over ends.whole)

pub read_cut : (task : Task) (limit room n : ℕ) (s : Status) (l0 l1 l2 h0 h1 h2 : Option (List ℕ)) (job : At → List ℕ → Type 0) (piece : List ℕ) (run : HasRun task l0 l1 h0 h1 job n)
    → n ≤ limit → room ≡ limit - n → HasRead l1 l2 piece → EndsRead s (place_of task run.bytes) (last_line [] run.bytes) room piece h1 h2
    → (s ≡ status.ReadFault → ⊥) → CutOff (job_ended task limit) (job_text task limit) s l0 l2 h0 h2
read_cut task limit room n s l0 l1 l2 h0 h1 h2 job piece run h room_is read ends never =
    let fits : length (run.bytes ++ ends.front) ≤ limit = omega (arith, run.counted, ends.fits, length-append run.bytes ends.front) in
    let whole = ap (λ t. job_ended task limit (run.bytes ++ t)) ends.sum ∙ ap (job_ended task limit) (sym (append_assoc run.bytes ends.front ends.more))
    ∙ ended_text-front task limit (run.bytes ++ ends.front) ends.more fits in
    let R : List ℕ → Type 0 = λ t. HasPart h0 h2 t in
    record {
      bytes = run.bytes ++ piece;
      read = read_more l0 l1 l2 run.bytes piece run.read read;
      part = cut_before (job_ended task limit) (job_text task limit) s l2 h0 h2 (run.bytes ++ piece) never
          (part_longer h0 h2 _ _ _ (subst R (sym (text_more (start task) [] run.bytes ends.front)) (part_next h0 h1 h2 _ _ run.written ends.part)) whole);
    }
