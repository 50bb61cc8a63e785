-- The bytes within the limit, and what a run over them comes to.
use Rattle.std.proofs.Common.{◌≡◌, ℕ, ◌+◌, ◌-◌, ◌<◌, ◌≤◌, true, false, List, [], ◌++◌, length, take, ap, ap₂, sym, ◌∙◌, append-nil, arith, if◌then◌else◌, nat_le}
use Rattle.std.proofs.lemmas.List.{length-append}
use Rattle.std.proofs.lemmas.Bool.{leb-false, leb-true, false_from_ne_true, true_from_ne_false}
use Rattle.std.proofs.Math.Seq.{take-append-add, take-nil}
use Rattle.frame_run.specs.Lines.{ended_lines, last_line}
use Rattle.frame_run.specs.Text.{start, stopped, after_lines, lines_text, after_last, last_text, end_status, over_status, stop_status, ended_at, job_ended, job_text, job_status}
use Rattle.frame_run.specs.declared.stage.RunStop.{RunStop}
use Rattle.frame_run.specs.Words.{Task}
use Rattle.frame_run.proofs.LinesLemmas.{after_more, text_more, after_lines-stopped, lines_text-stopped}

pub within : (a b : ℕ) → a ≤ b → nat_le a b ≡ true
within a b h = true_from_ne_false (nat_le a b) (λ e. absurd (omega (arith, leb-false a b e)))

pub beyond : (a b : ℕ) → b < a → nat_le a b ≡ false
beyond a b h = false_from_ne_true (nat_le a b) (λ e. absurd (omega (arith, leb-true a b e)))

pub take_front : (limit : ℕ) (r more : List ℕ) → length r ≤ limit → take limit (r ++ more) ≡ r ++ take (limit - length r) more
take_front limit r more h =
    let e : limit ≡ length r + (limit - length r) = omega arith in
    ap (λ n. take n (r ++ more)) e ∙ take-append-add r more (limit - length r)

pub ended_at-front : (task : Task) (limit : ℕ) (r more : List ℕ) → length r ≤ limit
    → ended_at task limit (r ++ more) ≡ after_lines (after_lines (start task) (ended_lines [] r)) (ended_lines (last_line [] r) (take (limit - length r) more))
unfolding ended_at
ended_at-front task limit r more h =
    ap (λ t. after_lines (start task) (ended_lines [] t)) (take_front limit r more h) ∙ after_more (start task) [] r (take (limit - length r) more)

pub ended_text-front : (task : Task) (limit : ℕ) (r more : List ℕ) → length r ≤ limit
    → job_ended task limit (r ++ more) ≡ lines_text (start task) (ended_lines [] r)
    ++ lines_text (after_lines (start task) (ended_lines [] r)) (ended_lines (last_line [] r) (take (limit - length r) more))
unfolding job_ended
ended_text-front task limit r more h =
    ap (λ t. lines_text (start task) (ended_lines [] t)) (take_front limit r more h) ∙ text_more (start task) [] r (take (limit - length r) more)

-- where the lines of a front stop the run
stopped_at : (task : Task) (limit : ℕ) (r more : List ℕ) (stop : RunStop) → length r ≤ limit → after_lines (start task) (ended_lines [] r) ≡ stopped stop
    → ended_at task limit (r ++ more) ≡ stopped stop
stopped_at task limit r more stop h s =
    let rest = ended_lines (last_line [] r) (take (limit - length r) more) in
    ended_at-front task limit r more h ∙ ap (λ at. after_lines at rest) s ∙ after_lines-stopped stop rest

stopped_text : (task : Task) (limit : ℕ) (r more : List ℕ) (stop : RunStop) → length r ≤ limit → after_lines (start task) (ended_lines [] r) ≡ stopped stop
    → job_ended task limit (r ++ more) ≡ lines_text (start task) (ended_lines [] r)
stopped_text task limit r more stop h s =
    let rest = ended_lines (last_line [] r) (take (limit - length r) more) in
    ended_text-front task limit r more h
    ∙ ap (λ t. lines_text (start task) (ended_lines [] r) ++ t) (ap (λ at. lines_text at rest) s ∙ lines_text-stopped stop rest)
    ∙ append-nil (lines_text (start task) (ended_lines [] r))

pub stopped_run_status : (task : Task) (limit : ℕ) (r more : List ℕ) (stop : RunStop) → length r ≤ limit → after_lines (start task) (ended_lines [] r) ≡ stopped stop
    → job_status task limit (r ++ more) ≡ over_status (after_lines (start task) (ended_lines [] r))
unfolding job_status
stopped_run_status task limit r more stop h s =
    let line = last_line [] (r ++ more) in
    (elim (nat_le (length (r ++ more)) limit) as (λ v. (if v then end_status (after_last (ended_at task limit (r ++ more)) line) else over_status (ended_at task limit (r ++ more))) ≡ stop_status stop)
    [ true ↦ ap (λ at. end_status (after_last at line)) (stopped_at task limit r more stop h s) | false ↦ ap over_status (stopped_at task limit r more stop h s) ])
    ∙ ap over_status (sym s)

pub stopped_run_text : (task : Task) (limit : ℕ) (r more : List ℕ) (stop : RunStop) → length r ≤ limit → after_lines (start task) (ended_lines [] r) ≡ stopped stop
    → job_text task limit (r ++ more) ≡ lines_text (start task) (ended_lines [] r)
unfolding job_text
stopped_run_text task limit r more stop h s =
    let line = last_line [] (r ++ more) in
    elim (nat_le (length (r ++ more)) limit) as (λ v. (if v then job_ended task limit (r ++ more) ++ last_text (ended_at task limit (r ++ more)) line else job_ended task limit (r ++ more)) ≡ lines_text (start task) (ended_lines [] r)) [
      | true ↦ ap₂ (λ a b. a ++ b) (stopped_text task limit r more stop h s) (ap (λ at. last_text at line) (stopped_at task limit r more stop h s)) ∙ append-nil (lines_text (start task) (ended_lines [] r))
      | false ↦ stopped_text task limit r more stop h s
    ]

-- where more bytes come than the limit
no_room : (limit : ℕ) (r more : List ℕ) → length r ≡ limit → take (limit - length r) more ≡ []
no_room limit r more e = let z : limit - length r ≡ 0 = omega arith in ap (λ n. take n more) z

over_at : (task : Task) (limit : ℕ) (r more : List ℕ) → length r ≡ limit → ended_at task limit (r ++ more) ≡ after_lines (start task) (ended_lines [] r)
over_at task limit r more e =
    ended_at-front task limit r more (omega arith)
    ∙ ap (λ t. after_lines (after_lines (start task) (ended_lines [] r)) (ended_lines (last_line [] r) t)) (no_room limit r more e)

over_text : (task : Task) (limit : ℕ) (r more : List ℕ) → length r ≡ limit → job_ended task limit (r ++ more) ≡ lines_text (start task) (ended_lines [] r)
over_text task limit r more e =
    ended_text-front task limit r more (omega arith)
    ∙ ap (λ t. lines_text (start task) (ended_lines [] r) ++ lines_text (after_lines (start task) (ended_lines [] r)) (ended_lines (last_line [] r) t)) (no_room limit r more e)
    ∙ append-nil (lines_text (start task) (ended_lines [] r))

pub over_run_status : (task : Task) (limit : ℕ) (r more : List ℕ) → length r ≡ limit → 0 < length more
    → job_status task limit (r ++ more) ≡ over_status (after_lines (start task) (ended_lines [] r))
unfolding job_status
over_run_status task limit r more e h =
    let line = last_line [] (r ++ more) in
    let long : nat_le (length (r ++ more)) limit ≡ false = beyond (length (r ++ more)) limit (omega (arith, length-append r more)) in
    ap (λ v. if v then end_status (after_last (ended_at task limit (r ++ more)) line) else over_status (ended_at task limit (r ++ more))) long
    ∙ ap over_status (over_at task limit r more e)

pub over_run_text : (task : Task) (limit : ℕ) (r more : List ℕ) → length r ≡ limit → 0 < length more
    → job_text task limit (r ++ more) ≡ lines_text (start task) (ended_lines [] r)
unfolding job_text
over_run_text task limit r more e h =
    let line = last_line [] (r ++ more) in
    let long : nat_le (length (r ++ more)) limit ≡ false = beyond (length (r ++ more)) limit (omega (arith, length-append r more)) in
    ap (λ v. if v then job_ended task limit (r ++ more) ++ last_text (ended_at task limit (r ++ more)) line else job_ended task limit (r ++ more)) long
    ∙ over_text task limit r more e

-- where the input ends within the limit
pub take_all : (limit : ℕ) (r : List ℕ) → length r ≤ limit → take limit r ≡ r
take_all limit r h =
    ap (take limit) (sym (append-nil r)) ∙ take_front limit r [] h ∙ ap (λ t. r ++ t) (take-nil (limit - length r)) ∙ append-nil r

end_at : (task : Task) (limit : ℕ) (r : List ℕ) → length r ≤ limit → ended_at task limit r ≡ after_lines (start task) (ended_lines [] r)
unfolding ended_at
end_at task limit r h = ap (λ t. after_lines (start task) (ended_lines [] t)) (take_all limit r h)

pub ended_text-all : (task : Task) (limit : ℕ) (r : List ℕ) → length r ≤ limit → job_ended task limit r ≡ lines_text (start task) (ended_lines [] r)
unfolding job_ended
ended_text-all task limit r h = ap (λ t. lines_text (start task) (ended_lines [] t)) (take_all limit r h)

pub end_run_status : (task : Task) (limit : ℕ) (r : List ℕ) → length r ≤ limit
    → job_status task limit r ≡ end_status (after_last (after_lines (start task) (ended_lines [] r)) (last_line [] r))
unfolding job_status
end_run_status task limit r h =
    ap (λ v. if v then end_status (after_last (ended_at task limit r) (last_line [] r)) else over_status (ended_at task limit r)) (within (length r) limit h)
    ∙ ap (λ at. end_status (after_last at (last_line [] r))) (end_at task limit r h)

pub end_run_text : (task : Task) (limit : ℕ) (r : List ℕ) → length r ≤ limit
    → job_text task limit r ≡ lines_text (start task) (ended_lines [] r) ++ last_text (after_lines (start task) (ended_lines [] r)) (last_line [] r)
unfolding job_text
end_run_text task limit r h =
    ap (λ v. if v then job_ended task limit r ++ last_text (ended_at task limit r) (last_line [] r) else job_ended task limit r) (within (length r) limit h)
    ∙ ap₂ (λ a b. a ++ b) (ended_text-all task limit r h) (ap (λ at. last_text at (last_line [] r)) (end_at task limit r h))
