-- When each status comes.
use Rattle.std.proofs.Common.{◌≡◌, ◌↔◌, ℕ, ◌+◌, ◌<◌, ◌≤◌, Bool, true, false, ◌||◌, ◌⊎◌, inl, inr, List, [], ◌∷◌, ◌++◌, length, take, Option, Some, None, Result, Ok, Err, refl, ap, ap₂, sym, subst, ◌∙◌, append_assoc, append-nil, arith, if◌then◌else◌}
use Rattle.std.specs.Result.{IsOk, IsErr}
use Rattle.std.proofs.lemmas.Bool.Decides.{eqb_tells, leb_tells}
use Rattle.delegates.specs.Table.{Plug}
use Rattle.fx_outside.specs.Told.{HasWritten}
use Rattle.session_form.specs.FaultText.{fault_text}
use Rattle.live_session.specs.RunState.{RunState, Came, went, refused, faulted, state_after, first_run}
use Rattle.live_session.specs.EntryStep.{entry_step}
use Rattle.frame_run.specs.Lines.{ended_lines, last_line, trimmed, is_mark}
use Rattle.frame_run.specs.Program.{Begun, to_run, to_check, program_in}
use Rattle.frame_run.specs.declared.words.Mode.{Mode}
use Rattle.frame_run.specs.Script.{asked_of}
use Rattle.frame_run.specs.Text.{At, start, reading, running, checked, stopped, begun, begun_by, stepped, stepped_text, after_asked, asked_text, after_script_line, script_text, after_line, line_text, after_lines, after_last, end_status, over_status, fault_line, begun_text, begun_text_by, lines_text, last_text, program_part, ended_at, job_ended, job_text, job_status, text_for, status_for, ended_for, input_text, input_status, input_ended, status_of}
use Rattle.frame_run.specs.Words.{RunSetup, mode_given, input_given, Task, task_with}
use Rattle.frame_run.specs.Answers.{has_mark, before_mark, after_mark, joined, program_part_of, script_of, ended_script_of, is_refused_step, is_faulted_step, is_refused_as, is_faulted_as, state_as, is_refused, is_faulted, state_after_line, some_refused, some_faulted, refused_in, faulted_in, refused_for, has_refused, has_faulted, has_faulted_ended, IsDone, IsBadProgram, IsFaulted, IsTooLong, IsRefusedFor, EndsInFault}
use Rattle.frame_run.specs.declared.program.ProgramFault.{ProgramFault}
use Rattle.frame_run.specs.declared.script.Asked.{Asked}
use Rattle.frame_run.specs.declared.script.Asked.TheVariants as asked
use Rattle.frame_run.specs.declared.stage.RunStop.{RunStop}
use Rattle.frame_run.specs.declared.stage.RunStop.TheVariants as stop
use Rattle.frame_run.specs.declared.status.Status.{Status}
use Rattle.frame_run.specs.declared.status.Status.TheVariants as status
use Rattle.frame_run.proofs.LinesLemmas.{after_lines-stopped, lines_text-stopped}
use Rattle.frame_run.proofs.LimitLemmas.{take_all, beyond, end_run_status, end_run_text}
use Rattle.frame_run.proofs.StatusLemmas.{OnEnd-map}
use Rattle.frame_run.specs.Status.{OnEnd}

seam : (p line t : List ℕ) → p ++ line ++ 10 ∷ [] ++ t ≡ p ++ (line ++ 10 ∷ t)
seam p line t = append_assoc (p ++ line) (10 ∷ []) t ∙ append_assoc p line (10 ∷ t)

-- the program part by its lines
reading_lines : (task : Task) (p : List ℕ) (lines : List (List ℕ)) → after_lines (reading task p) lines
    ≡ (if has_mark lines then after_lines (begun task (p ++ joined (before_mark lines))) (after_mark lines) else reading task (p ++ joined lines))
reading_lines task p [] = ap (reading task) (sym (append-nil p))
reading_lines task p (line ∷ lines) =
    elim (is_mark line) as (λ v. after_lines (if v then begun task p else reading task (p ++ line ++ 10 ∷ [])) lines
    ≡ (if v || has_mark lines then after_lines (begun task (p ++ joined (elim v [ true ↦ [] | false ↦ line ∷ before_mark lines ])))
    (elim v [ true ↦ lines | false ↦ after_mark lines ]) else reading task (p ++ (line ++ 10 ∷ joined lines)))) [
      | true ↦ ap (λ q. after_lines (begun task q) lines) (sym (append-nil p))
      | false ↦ reading_lines task (p ++ line ++ 10 ∷ []) lines
          ∙ ap₂ (λ a b. if has_mark lines then after_lines (begun task a) (after_mark lines) else reading task b)
          (seam p line (joined (before_mark lines))) (seam p line (joined lines))
    ]

-- the bytes by their lines
joined_lines : (s b : List ℕ) → joined (ended_lines s b) ++ last_line s b ≡ s ++ b
joined_lines s [] = sym (append-nil s)
joined_lines s (x ∷ xs) =
    let both : Bool → List ℕ = λ v. joined (elim v [ true ↦ s ∷ ended_lines [] xs | false ↦ ended_lines (s ++ x ∷ []) xs ])
    ++ (elim v [ true ↦ last_line [] xs | false ↦ last_line (s ++ x ∷ []) xs ]) in
    elim (eqb_tells x 10) [
      | inl t ↦ ap both t.0 ∙ append_assoc s (10 ∷ joined (ended_lines [] xs)) (last_line [] xs)
          ∙ ap (λ r. s ++ 10 ∷ r) (joined_lines [] xs) ∙ ap (λ y. s ++ y ∷ xs) (sym t.1)
      | inr t ↦ ap both t.0 ∙ joined_lines (s ++ x ∷ []) xs ∙ append_assoc s (x ∷ []) xs
    ]

or_false : (r : Bool) → (r || false) ≡ r
or_false true = refl
or_false false = refl

or_true : (r : Bool) → (r || true) ≡ true
or_true true = refl
or_true false = refl

or_assoc : (a b c : Bool) → ((a || b) || c) ≡ (a || (b || c))
or_assoc true b c = refl
or_assoc false b c = refl

-- ---- where a script line leaves the run

step_is : (s : RunState) (number : ℕ) (some : Bool) (o : Came)
    → stepped o s number some ≡ (if is_faulted_step o then stopped stop.FrameFault else running (state_after s o) number (some || is_refused_step o))
step_is s number some (went next text) = ap (running next number) (sym (or_false some))
step_is s number some (refused why) = ap (running s number) (sym (or_true some))
step_is s number some (faulted fault) = refl

asked_is : (s : RunState) (number : ℕ) (some : Bool) (a : Asked)
    → after_asked s number some a ≡ (if is_faulted_as s a then stopped stop.FrameFault else running (state_as s a) number (some || is_refused_as s a))
asked_is s number some asked.Nothing = ap (running s number) (sym (or_false some))
asked_is s number some (asked.Entry entry) = step_is s number some (entry_step s entry)
asked_is s number some (asked.Refused why) = ap (running s number) (sym (or_true some))

line_is : (s : RunState) (number : ℕ) (some : Bool) (line : List ℕ)
    → after_script_line s number some line ≡ (if is_faulted s line then stopped stop.FrameFault else running (state_after_line s line) number (some || is_refused s line))
unfolding after_script_line is_faulted state_after_line is_refused
line_is s number some line = asked_is s number some (asked_of (trimmed line))

-- the state and the number of lines after script lines of which none is a frame with a fault
abbrev states_after : RunState → List (List ℕ) → RunState
states_after s [] = s
states_after s (line ∷ lines) = states_after (state_after_line s line) lines

abbrev count_after : ℕ → List (List ℕ) → ℕ
count_after n [] = n
count_after n (line ∷ lines) = count_after (n + 1) lines

lines_are : (s : RunState) (n : ℕ) (some : Bool) (lines : List (List ℕ)) → after_lines (running s n some) lines
    ≡ (if some_faulted s lines then stopped stop.FrameFault else running (states_after s lines) (count_after n lines) (some || some_refused s lines))
lines_are s n some [] = ap (running s n) (sym (or_false some))
lines_are s n some (line ∷ lines) =
    let next = state_after_line s line in
    let now = some || is_refused s line in
    ap (λ at. after_lines at lines) (line_is s (n + 1) some line)
    ∙ (elim (is_faulted s line) as (λ v. after_lines (if v then stopped stop.FrameFault else running next (n + 1) now) lines
    ≡ (if v || some_faulted next lines then stopped stop.FrameFault
    else running (states_after next lines) (count_after (n + 1) lines) (some || (is_refused s line || some_refused next lines)))) [
      | true ↦ after_lines-stopped stop.FrameFault lines
      | false ↦ lines_are next (n + 1) now lines
          ∙ ap (λ r. if some_faulted next lines then stopped stop.FrameFault else running (states_after next lines) (count_after (n + 1) lines) r)
          (or_assoc some (is_refused s line) (some_refused next lines))
    ])

-- the last line of a script is taken as any other
last_as_line : (s : RunState) (n : ℕ) (some : Bool) (lines : List (List ℕ)) (last : List ℕ)
    → after_last (after_lines (running s n some) lines) last ≡ after_lines (running s n some) (lines ++ last ∷ [])
last_as_line s n some [] last = refl
last_as_line s n some (line ∷ lines) last =
    let P : At → Type 0 = λ at. after_last (after_lines at lines) last ≡ after_lines at (lines ++ last ∷ []) in
    let next = state_after_line s line in
    let now = some || is_refused s line in
    subst P (sym (line_is s (n + 1) some line))
    (elim (is_faulted s line) as (λ v. after_last (after_lines (if v then stopped stop.FrameFault else running next (n + 1) now) lines) last
    ≡ after_lines (if v then stopped stop.FrameFault else running next (n + 1) now) (lines ++ last ∷ [])) [
      | true ↦ ap (λ at. after_last at last) (after_lines-stopped stop.FrameFault lines) ∙ sym (after_lines-stopped stop.FrameFault (lines ++ last ∷ []))
      | false ↦ last_as_line next (n + 1) now lines last
    ])

-- a program that is only checked: its script isn't run
checked_lines : (lines : List (List ℕ)) → after_lines checked lines ≡ checked
checked_lines [] = refl
checked_lines (line ∷ lines) = checked_lines lines

-- ---- the status at the end of the input, and past the limit

abbrev verdict_of : Result Begun ProgramFault → Bool → Bool → Status
verdict_of (Err fault) bad some_bad = status.BadProgram
verdict_of (Ok x) bad some_bad = if bad then status.FrameFault else (if some_bad then status.SomeRefused else status.AllAccepted)

abbrev verdict_over : Bool → Result Begun ProgramFault → Bool → Status
verdict_over false program bad = status.TooLong
verdict_over true (Err fault) bad = status.BadProgram
verdict_over true (Ok x) bad = if bad then status.FrameFault else status.TooLong

script_end : (s : RunState) (n : ℕ) (lines : List (List ℕ)) → end_status (after_lines (running s n false) lines)
    ≡ (if some_faulted s lines then status.FrameFault else (if some_refused s lines then status.SomeRefused else status.AllAccepted))
script_end s n lines =
    ap end_status (lines_are s n false lines)
    ∙ (elim (some_faulted s lines) as (λ v. end_status (if v then stopped stop.FrameFault else running (states_after s lines) (count_after n lines) (some_refused s lines))
    ≡ (if v then status.FrameFault else (if some_refused s lines then status.SomeRefused else status.AllAccepted)))
    [ true ↦ refl | false ↦ refl ])

script_over : (s : RunState) (n : ℕ) (lines : List (List ℕ)) → over_status (after_lines (running s n false) lines)
    ≡ (if some_faulted s lines then status.FrameFault else status.TooLong)
script_over s n lines =
    ap over_status (lines_are s n false lines)
    ∙ (elim (some_faulted s lines) as (λ v. over_status (if v then stopped stop.FrameFault else running (states_after s lines) (count_after n lines) (some_refused s lines))
    ≡ (if v then status.FrameFault else status.TooLong))
    [ true ↦ refl | false ↦ refl ])

by_end : (es : List Plug) (r : Result Begun ProgramFault) (lines : List (List ℕ)) (last : List ℕ)
    → end_status (after_last (after_lines (begun_by es r) lines) last) ≡ verdict_of r (faulted_in es r (lines ++ last ∷ [])) (refused_in es r (lines ++ last ∷ []))
by_end es (Ok (to_run c)) lines last =
    ap end_status (last_as_line (first_run c es) 0 false lines last) ∙ script_end (first_run c es) 0 (lines ++ last ∷ [])
by_end es (Ok (to_check count)) lines last = ap (λ at. end_status (after_last at last)) (checked_lines lines)
by_end es (Err fault) lines last = ap (λ at. end_status (after_last at last)) (after_lines-stopped stop.BadProgram lines)

begun_end : (task : Task) (part : List ℕ) (lines : List (List ℕ)) (last : List ℕ) → end_status (after_last (after_lines (begun task part) lines) last)
    ≡ verdict_of (program_in task.mode part) (faulted_in task.delegates (program_in task.mode part) (lines ++ last ∷ []))
    (refused_in task.delegates (program_in task.mode part) (lines ++ last ∷ []))
unfolding begun
begun_end task part lines last = by_end task.delegates (program_in task.mode part) lines last

by_last : (es : List Plug) (r : Result Begun ProgramFault) → end_status (begun_by es r) ≡ verdict_of r (faulted_in es r []) (refused_in es r [])
by_last es (Ok (to_run c)) = refl
by_last es (Ok (to_check count)) = refl
by_last es (Err fault) = refl

last_end : (task : Task) (part : List ℕ) → end_status (begun task part)
    ≡ verdict_of (program_in task.mode part) (faulted_in task.delegates (program_in task.mode part) []) (refused_in task.delegates (program_in task.mode part) [])
unfolding begun
last_end task part = by_last task.delegates (program_in task.mode part)

by_over : (es : List Plug) (r : Result Begun ProgramFault) (lines : List (List ℕ))
    → over_status (after_lines (begun_by es r) lines) ≡ verdict_over true r (faulted_in es r lines)
by_over es (Ok (to_run c)) lines = script_over (first_run c es) 0 lines
by_over es (Ok (to_check count)) lines = ap over_status (checked_lines lines)
by_over es (Err fault) lines = ap over_status (after_lines-stopped stop.BadProgram lines)

begun_over : (task : Task) (part : List ℕ) (lines : List (List ℕ)) → over_status (after_lines (begun task part) lines)
    ≡ verdict_over true (program_in task.mode part) (faulted_in task.delegates (program_in task.mode part) lines)
unfolding begun
begun_over task part lines = by_over task.delegates (program_in task.mode part) lines

end_is : (task : Task) (b : List ℕ) → end_status (after_last (after_lines (start task) (ended_lines [] b)) (last_line [] b))
    ≡ verdict_of (program_in task.mode (program_part_of b)) (faulted_in task.delegates (program_in task.mode (program_part_of b)) (script_of b))
    (refused_in task.delegates (program_in task.mode (program_part_of b)) (script_of b))
unfolding program_part_of script_of
end_is task b =
    let lines = ended_lines [] b in
    let last = last_line [] b in
    let program : Bool → Result Begun ProgramFault = λ v. program_in task.mode (if v then joined (before_mark lines) else (if is_mark last then joined lines else b)) in
    let script : Bool → List (List ℕ) = λ v. if v then after_mark lines ++ last ∷ [] else [] in
    ap (λ at. end_status (after_last at last)) (reading_lines task [] lines)
    ∙ (elim (has_mark lines) as (λ v. end_status (after_last (if v then after_lines (begun task (joined (before_mark lines))) (after_mark lines) else reading task (joined lines)) last)
    ≡ verdict_of (program v) (faulted_in task.delegates (program v) (script v)) (refused_in task.delegates (program v) (script v))) [
      | true ↦ begun_end task (joined (before_mark lines)) (after_mark lines) last
      | false ↦ ap (λ q. end_status (begun task (if is_mark last then joined lines else q))) (joined_lines [] b)
          ∙ last_end task (if is_mark last then joined lines else b)
    ])

over_is : (task : Task) (b : List ℕ) → over_status (after_lines (start task) (ended_lines [] b))
    ≡ verdict_over (has_mark (ended_lines [] b)) (program_in task.mode (program_part_of b))
    (faulted_in task.delegates (program_in task.mode (program_part_of b)) (ended_script_of b))
unfolding program_part_of ended_script_of
over_is task b =
    let lines = ended_lines [] b in
    let last = last_line [] b in
    let program : Bool → Result Begun ProgramFault = λ v. program_in task.mode (if v then joined (before_mark lines) else (if is_mark last then joined lines else b)) in
    let script : Bool → List (List ℕ) = λ v. if v then after_mark lines else [] in
    ap over_status (reading_lines task [] lines)
    ∙ (elim (has_mark lines) as (λ v. over_status (if v then after_lines (begun task (joined (before_mark lines))) (after_mark lines) else reading task (joined lines))
    ≡ verdict_over v (program v) (faulted_in task.delegates (program v) (script v)))
    [ true ↦ begun_over task (joined (before_mark lines)) (after_mark lines) | false ↦ refl ])

-- ---- the status by the words and the length

no_mode : (g : RunSetup) (b : List ℕ) → mode_given g ≡ None → input_status g b ≡ status.BadWords
unfolding input_status
no_mode g b e = ap (λ m. status_for m g b) e

in_mode : (g : RunSetup) (b : List ℕ) (mode : Mode) → mode_given g ≡ Some mode → input_status g b ≡ job_status (task_with mode g.delegates) g.limit b
unfolding input_status
in_mode g b mode e = ap (λ m. status_for m g b) e

refused_is : (g : RunSetup) (b : List ℕ) (mode : Mode) → mode_given g ≡ Some mode
    → has_refused g b ≡ refused_in g.delegates (program_in mode (program_part_of b)) (script_of b)
refused_is g b mode e = ap (λ m. refused_for m g b) e

within_is : (g : RunSetup) (b : List ℕ) (mode : Mode) → mode_given g ≡ Some mode → length b ≤ g.limit
    → input_status g b ≡ verdict_of (program_in mode (program_part_of b)) (has_faulted g mode b) (has_refused g b)
within_is g b mode e h =
    let task = task_with mode g.delegates in
    in_mode g b mode e ∙ end_run_status task g.limit b h ∙ end_is task b
    ∙ ap (verdict_of (program_in mode (program_part_of b)) (has_faulted g mode b)) (sym (refused_is g b mode e))

over_run_is : (task : Task) (limit : ℕ) (b : List ℕ) → limit < length b
    → job_status task limit b ≡ over_status (after_lines (start task) (ended_lines [] (take limit b)))
unfolding job_status ended_at
over_run_is task limit b h =
    ap (λ v. if v then end_status (after_last (ended_at task limit b) (last_line [] b)) else over_status (ended_at task limit b)) (beyond (length b) limit h)

past_is : (g : RunSetup) (b : List ℕ) (mode : Mode) → mode_given g ≡ Some mode → g.limit < length b
    → input_status g b ≡ verdict_over (has_mark (ended_lines [] (take g.limit b))) (program_in mode (program_part_of (take g.limit b)))
    (has_faulted_ended g mode (take g.limit b))
past_is g b mode e h =
    let task = task_with mode g.delegates in
    in_mode g b mode e ∙ over_run_is task g.limit b h ∙ over_is task (take g.limit b)

-- the words are some_bad or ask for a mode, the input ends within the limit or it doesn't
mode_or_none : (o : Option Mode) → (o ≡ None) ⊎ ((mode : Mode) × (o ≡ Some mode))
mode_or_none None = inl refl
mode_or_none (Some mode) = inr (mode, refl)

sized : (a b : ℕ) → (a ≤ b) ⊎ (b < a)
sized a b = elim (leb_tells a b) [ inl t ↦ inl t.1 | inr t ↦ inr t.1 ]

-- 0
accepted_parts : (program : Result Begun ProgramFault) (bad some_bad : Bool) → verdict_of program bad some_bad ≡ status.AllAccepted
    → IsOk program × (bad ≡ false) × (some_bad ≡ false)
accepted_parts (Ok x) true some_bad e = cc
accepted_parts (Ok x) false true e = cc
accepted_parts (Ok x) false false e = (refl, refl, refl)
accepted_parts (Err fault) bad some_bad e = cc

parts_accepted : (program : Result Begun ProgramFault) (bad some_bad : Bool) → IsOk program → bad ≡ false → some_bad ≡ false
    → verdict_of program bad some_bad ≡ status.AllAccepted
parts_accepted (Ok x) true some_bad ok fine none = cc
parts_accepted (Ok x) false true ok fine none = cc
parts_accepted (Ok x) false false ok fine none = refl
parts_accepted (Err fault) bad some_bad ok fine none = cc

never_over_accepted : (marked : Bool) (program : Result Begun ProgramFault) (bad : Bool) → verdict_over marked program bad ≡ status.AllAccepted → ⊥
never_over_accepted false program bad e = cc
never_over_accepted true (Ok x) true e = cc
never_over_accepted true (Ok x) false e = cc
never_over_accepted true (Err fault) bad e = cc

all_accepted : (g : RunSetup) (b : List ℕ) → input_status g b ≡ status.AllAccepted → IsDone g b × (has_refused g b ≡ false)
all_accepted g b e =
    elim (mode_or_none (mode_given g)) [
      | inl none ↦ absurd (let f : status.BadWords ≡ status.AllAccepted = sym (no_mode g b none) ∙ e in cc)
      | inr m ↦ elim (sized (length b) g.limit) [
        | inl fits ↦ let parts = accepted_parts _ _ _ (sym (within_is g b m.0 m.1 fits) ∙ e) in ((m.0, m.1, fits, parts.0, parts.1), parts.2)
        | inr long ↦ absurd (never_over_accepted _ _ _ (sym (past_is g b m.0 m.1 long) ∙ e))
      ]
    ]

done_accepted : (g : RunSetup) (b : List ℕ) → IsDone g b × (has_refused g b ≡ false) → input_status g b ≡ status.AllAccepted
done_accepted g b (whole, none) = within_is g b whole.0 whole.1 whole.2 ∙ parts_accepted _ _ _ whole.3 whole.4 none

-- 1
refused_parts : (program : Result Begun ProgramFault) (bad some_bad : Bool) → verdict_of program bad some_bad ≡ status.SomeRefused
    → IsOk program × (bad ≡ false) × (some_bad ≡ true)
refused_parts (Ok x) true some_bad e = cc
refused_parts (Ok x) false true e = (refl, refl, refl)
refused_parts (Ok x) false false e = cc
refused_parts (Err fault) bad some_bad e = cc

parts_refused : (program : Result Begun ProgramFault) (bad some_bad : Bool) → IsOk program → bad ≡ false → some_bad ≡ true
    → verdict_of program bad some_bad ≡ status.SomeRefused
parts_refused (Ok x) true some_bad ok fine some = cc
parts_refused (Ok x) false true ok fine some = refl
parts_refused (Ok x) false false ok fine some = cc
parts_refused (Err fault) bad some_bad ok fine some = cc

never_over_refused : (marked : Bool) (program : Result Begun ProgramFault) (bad : Bool) → verdict_over marked program bad ≡ status.SomeRefused → ⊥
never_over_refused false program bad e = cc
never_over_refused true (Ok x) true e = cc
never_over_refused true (Ok x) false e = cc
never_over_refused true (Err fault) bad e = cc

refused_some : (g : RunSetup) (b : List ℕ) → input_status g b ≡ status.SomeRefused → IsDone g b × (has_refused g b ≡ true)
refused_some g b e =
    elim (mode_or_none (mode_given g)) [
      | inl none ↦ absurd (let f : status.BadWords ≡ status.SomeRefused = sym (no_mode g b none) ∙ e in cc)
      | inr m ↦ elim (sized (length b) g.limit) [
        | inl fits ↦ let parts = refused_parts _ _ _ (sym (within_is g b m.0 m.1 fits) ∙ e) in ((m.0, m.1, fits, parts.0, parts.1), parts.2)
        | inr long ↦ absurd (never_over_refused _ _ _ (sym (past_is g b m.0 m.1 long) ∙ e))
      ]
    ]

done_refused : (g : RunSetup) (b : List ℕ) → IsDone g b × (has_refused g b ≡ true) → input_status g b ≡ status.SomeRefused
done_refused g b (whole, some) = within_is g b whole.0 whole.1 whole.2 ∙ parts_refused _ _ _ whole.3 whole.4 some

-- 3
bad_parts : (program : Result Begun ProgramFault) (bad some_bad : Bool) → verdict_of program bad some_bad ≡ status.BadProgram → IsErr program
bad_parts (Ok x) true some_bad e = cc
bad_parts (Ok x) false true e = cc
bad_parts (Ok x) false false e = cc
bad_parts (Err fault) bad some_bad e = refl

parts_bad : (program : Result Begun ProgramFault) (bad some_bad : Bool) → IsErr program → verdict_of program bad some_bad ≡ status.BadProgram
parts_bad (Ok x) bad some_bad err = cc
parts_bad (Err fault) bad some_bad err = refl

over_bad_parts : (marked : Bool) (program : Result Begun ProgramFault) (bad : Bool) → verdict_over marked program bad ≡ status.BadProgram
    → (marked ≡ true) × IsErr program
over_bad_parts false program bad e = cc
over_bad_parts true (Ok x) true e = cc
over_bad_parts true (Ok x) false e = cc
over_bad_parts true (Err fault) bad e = (refl, refl)

parts_over_bad : (marked : Bool) (program : Result Begun ProgramFault) (bad : Bool) → marked ≡ true → IsErr program
    → verdict_over marked program bad ≡ status.BadProgram
parts_over_bad false program bad mark err = cc
parts_over_bad true (Ok x) bad mark err = cc
parts_over_bad true (Err fault) bad mark err = refl

cut_program : (mode : Mode) (limit : ℕ) (b : List ℕ) → length b ≤ limit → program_in mode (program_part_of b) ≡ program_in mode (program_part_of (take limit b))
cut_program mode limit b fits = ap (λ t. program_in mode (program_part_of t)) (sym (take_all limit b fits))

bad_program : (g : RunSetup) (b : List ℕ) → input_status g b ≡ status.BadProgram → IsBadProgram g b
bad_program g b e =
    let P : Result Begun ProgramFault → Type 0 = λ r. IsErr r in
    elim (mode_or_none (mode_given g)) [
      | inl none ↦ absurd (let f : status.BadWords ≡ status.BadProgram = sym (no_mode g b none) ∙ e in cc)
      | inr m ↦ elim (sized (length b) g.limit) [
        | inl fits ↦ (m.0, m.1, inl fits, subst P (cut_program m.0 g.limit b fits) (bad_parts _ _ _ (sym (within_is g b m.0 m.1 fits) ∙ e)))
        | inr long ↦ let parts = over_bad_parts _ _ _ (sym (past_is g b m.0 m.1 long) ∙ e) in (m.0, m.1, inr parts.0, parts.1)
      ]
    ]

program_bad : (g : RunSetup) (b : List ℕ) → IsBadProgram g b → input_status g b ≡ status.BadProgram
program_bad g b (mode, asked, which, err) =
    let P : Result Begun ProgramFault → Type 0 = λ r. IsErr r in
    elim (sized (length b) g.limit) [
      | inl fits ↦ within_is g b mode asked fits ∙ parts_bad _ _ _ (subst P (sym (cut_program mode g.limit b fits)) err)
      | inr long ↦ elim which [
        | inl fits ↦ absurd (omega arith)
        | inr marked ↦ past_is g b mode asked long ∙ parts_over_bad _ _ _ marked err
      ]
    ]

-- 4
faulted_parts : (program : Result Begun ProgramFault) (bad some_bad : Bool) → verdict_of program bad some_bad ≡ status.FrameFault → bad ≡ true
faulted_parts (Ok x) true some_bad e = refl
faulted_parts (Ok x) false true e = cc
faulted_parts (Ok x) false false e = cc
faulted_parts (Err fault) bad some_bad e = cc

parts_faulted : (es : List Plug) (program : Result Begun ProgramFault) (lines : List (List ℕ)) (some_bad : Bool) → faulted_in es program lines ≡ true
    → verdict_of program (faulted_in es program lines) some_bad ≡ status.FrameFault
parts_faulted es (Ok (to_run c)) lines some_bad e = ap (λ v. if v then status.FrameFault else (if some_bad then status.SomeRefused else status.AllAccepted)) e
parts_faulted es (Ok (to_check count)) lines some_bad e = cc
parts_faulted es (Err fault) lines some_bad e = cc

over_faulted_parts : (marked : Bool) (program : Result Begun ProgramFault) (bad : Bool) → verdict_over marked program bad ≡ status.FrameFault → bad ≡ true
over_faulted_parts false program bad e = cc
over_faulted_parts true (Ok x) true e = refl
over_faulted_parts true (Ok x) false e = cc
over_faulted_parts true (Err fault) bad e = cc

-- no line, no frame with a fault
faulted_nowhere : (es : List Plug) (program : Result Begun ProgramFault) → faulted_in es program [] ≡ false
faulted_nowhere es (Ok (to_run c)) = refl
faulted_nowhere es (Ok (to_check count)) = refl
faulted_nowhere es (Err fault) = refl

unmarked : (es : List Plug) (program : Result Begun ProgramFault) (lines : List (List ℕ)) → lines ≡ [] → faulted_in es program lines ≡ false
unmarked es program lines e = ap (faulted_in es program) e ∙ faulted_nowhere es program

parts_over_faulted : (marked : Bool) (es : List Plug) (program : Result Begun ProgramFault) (lines : List (List ℕ)) → (marked ≡ false → lines ≡ [])
    → faulted_in es program lines ≡ true → verdict_over marked program (faulted_in es program lines) ≡ status.FrameFault
parts_over_faulted false es program lines none e = absurd (let f : false ≡ true = sym (unmarked es program lines (none refl)) ∙ e in cc)
parts_over_faulted true es (Ok (to_run c)) lines none e = ap (λ v. if v then status.FrameFault else status.TooLong) e
parts_over_faulted true es (Ok (to_check count)) lines none e = cc
parts_over_faulted true es (Err fault) lines none e = cc

no_script : (b : List ℕ) → has_mark (ended_lines [] b) ≡ false → ended_script_of b ≡ []
unfolding ended_script_of
no_script b e = ap (λ v. if v then after_mark (ended_lines [] b) else []) e

frame_faulted : (g : RunSetup) (b : List ℕ) → input_status g b ≡ status.FrameFault → IsFaulted g b
frame_faulted g b e =
    elim (mode_or_none (mode_given g)) [
      | inl none ↦ absurd (let f : status.BadWords ≡ status.FrameFault = sym (no_mode g b none) ∙ e in cc)
      | inr m ↦ elim (sized (length b) g.limit) [
        | inl fits ↦ (m.0, m.1, inl (fits, faulted_parts _ _ _ (sym (within_is g b m.0 m.1 fits) ∙ e)))
        | inr long ↦ (m.0, m.1, inr (long, over_faulted_parts _ _ _ (sym (past_is g b m.0 m.1 long) ∙ e)))
      ]
    ]

faulted_frame : (g : RunSetup) (b : List ℕ) → IsFaulted g b → input_status g b ≡ status.FrameFault
faulted_frame g b (mode, asked, inl (fits, e)) = within_is g b mode asked fits ∙ parts_faulted g.delegates (program_in mode (program_part_of b)) (script_of b) (has_refused g b) e
faulted_frame g b (mode, asked, inr (long, e)) =
    let r = take g.limit b in
    past_is g b mode asked long
    ∙ parts_over_faulted (has_mark (ended_lines [] r)) g.delegates (program_in mode (program_part_of r)) (ended_script_of r) (no_script r) e

-- 8
over_long_parts : (marked : Bool) (es : List Plug) (program : Result Begun ProgramFault) (lines : List (List ℕ)) → (marked ≡ false → lines ≡ [])
    → verdict_over marked program (faulted_in es program lines) ≡ status.TooLong → (marked ≡ true → IsOk program) × (faulted_in es program lines ≡ false)
over_long_parts false es program lines none e = (λ mark. cc, unmarked es program lines (none refl))
over_long_parts true es (Ok x) lines none e =
    let by : (v : Bool) → (if v then status.FrameFault else status.TooLong) ≡ status.TooLong → v ≡ false =
    λ v. elim v as (λ v. (if v then status.FrameFault else status.TooLong) ≡ status.TooLong → v ≡ false) [ true ↦ λ e. cc | false ↦ λ e. refl ] in
    (λ mark. refl, by (faulted_in es (Ok x) lines) e)
over_long_parts true es (Err fault) lines none e = cc

parts_over_long : (marked : Bool) (program : Result Begun ProgramFault) (bad : Bool) → (marked ≡ true → IsOk program) → bad ≡ false
    → verdict_over marked program bad ≡ status.TooLong
parts_over_long false program bad h fine = refl
parts_over_long true (Ok x) bad h fine = ap (λ v. if v then status.FrameFault else status.TooLong) fine
parts_over_long true (Err fault) bad h fine = let f = h refl in cc

never_within_long : (program : Result Begun ProgramFault) (bad some_bad : Bool) → verdict_of program bad some_bad ≡ status.TooLong → ⊥
never_within_long (Ok x) true some_bad e = cc
never_within_long (Ok x) false true e = cc
never_within_long (Ok x) false false e = cc
never_within_long (Err fault) bad some_bad e = cc

too_long : (g : RunSetup) (b : List ℕ) → input_status g b ≡ status.TooLong → IsTooLong g b
too_long g b e =
    elim (mode_or_none (mode_given g)) [
      | inl none ↦ absurd (let f : status.BadWords ≡ status.TooLong = sym (no_mode g b none) ∙ e in cc)
      | inr m ↦ elim (sized (length b) g.limit) [
        | inl fits ↦ absurd (never_within_long _ _ _ (sym (within_is g b m.0 m.1 fits) ∙ e))
        | inr long ↦ let r = take g.limit b in
            let parts = over_long_parts (has_mark (ended_lines [] r)) g.delegates (program_in m.0 (program_part_of r)) (ended_script_of r) (no_script r)
            (sym (past_is g b m.0 m.1 long) ∙ e) in (m.0, m.1, long, parts.0, parts.1)
      ]
    ]

long_is : (g : RunSetup) (b : List ℕ) → IsTooLong g b → input_status g b ≡ status.TooLong
long_is g b (mode, asked, long, parts, fine) = past_is g b mode asked long ∙ parts_over_long _ _ _ parts fine

-- an answer comes exactly where the definition has it
exactly : (s t x : Status) (P : Type 0) → (t ≡ x → P) → (P → t ≡ x) → OnEnd s (s ≡ t) → OnEnd s ((s ≡ x) ↔ P)
exactly s t x P to from h = OnEnd-map s (s ≡ t) _ (λ (e : s ≡ t). (λ r. to (sym e ∙ r), λ p. e ∙ from p)) h

pub answers_all_accepted : (g : RunSetup) (b : List ℕ) (s : Status) → OnEnd s (s ≡ status_of g b)
    → OnEnd s ((s ≡ status.AllAccepted) ↔ (IsDone g (input_given g b) × (has_refused g (input_given g b) ≡ false)))
unfolding status_of
answers_all_accepted g b s h = exactly s _ status.AllAccepted _ (all_accepted g (input_given g b)) (done_accepted g (input_given g b)) h

pub answers_some_refused : (g : RunSetup) (b : List ℕ) (s : Status) → OnEnd s (s ≡ status_of g b)
    → OnEnd s ((s ≡ status.SomeRefused) ↔ (IsDone g (input_given g b) × (has_refused g (input_given g b) ≡ true)))
unfolding status_of
answers_some_refused g b s h = exactly s _ status.SomeRefused _ (refused_some g (input_given g b)) (done_refused g (input_given g b)) h

pub answers_bad_program : (g : RunSetup) (b : List ℕ) (s : Status) → OnEnd s (s ≡ status_of g b)
    → OnEnd s ((s ≡ status.BadProgram) ↔ IsBadProgram g (input_given g b))
unfolding status_of
answers_bad_program g b s h = exactly s _ status.BadProgram _ (bad_program g (input_given g b)) (program_bad g (input_given g b)) h

pub answers_frame_fault : (g : RunSetup) (b : List ℕ) (s : Status) → OnEnd s (s ≡ status_of g b)
    → OnEnd s ((s ≡ status.FrameFault) ↔ IsFaulted g (input_given g b))
unfolding status_of
answers_frame_fault g b s h = exactly s _ status.FrameFault _ (frame_faulted g (input_given g b)) (faulted_frame g (input_given g b)) h

pub answers_too_long : (g : RunSetup) (b : List ℕ) (s : Status) → OnEnd s (s ≡ status_of g b)
    → OnEnd s ((s ≡ status.TooLong) ↔ IsTooLong g (input_given g b))
unfolding status_of
answers_too_long g b s h = exactly s _ status.TooLong _ (too_long g (input_given g b)) (long_is g (input_given g b)) h

-- a program that is accepted, and of whose frames none has a fault, is run to the end of an input within the limit
pub done_ends : (g : RunSetup) (b : List ℕ) → IsDone g b
    → (input_status g b ≡ status.AllAccepted) ⊎ (input_status g b ≡ status.SomeRefused)
done_ends g b whole =
    elim (has_refused g b) as (λ v. (has_refused g b ≡ v) → (input_status g b ≡ status.AllAccepted) ⊎ (input_status g b ≡ status.SomeRefused))
    [ true ↦ λ e. inr (done_refused g b (whole, e)) | false ↦ λ e. inl (done_accepted g b (whole, e)) ] refl

pub done_answers : (g : RunSetup) (b : List ℕ) (s : Status) → IsDone g (input_given g b) → s ≡ status_of g b
    → (s ≡ status.AllAccepted) ⊎ (s ≡ status.SomeRefused)
unfolding status_of
done_answers g b s whole e = elim (done_ends g (input_given g b) whole) [ inl f ↦ inl (e ∙ f) | inr f ↦ inr (e ∙ f) ]

-- ---- texts

text_in : (g : RunSetup) (b : List ℕ) (mode : Mode) → mode_given g ≡ Some mode → input_text g b ≡ job_text (task_with mode g.delegates) g.limit b
unfolding input_text
text_in g b mode e = ap (λ m. text_for m g b) e

ended_in : (g : RunSetup) (b : List ℕ) (mode : Mode) → mode_given g ≡ Some mode → input_ended g b ≡ job_ended (task_with mode g.delegates) g.limit b
unfolding input_ended
ended_in g b mode e = ap (λ m. ended_for m g b) e

-- past the limit
long_text : (task : Task) (limit : ℕ) (b : List ℕ) → limit < length b → job_text task limit b ≡ job_ended task limit b
unfolding job_text
long_text task limit b h =
    ap (λ v. if v then job_ended task limit b ++ last_text (ended_at task limit b) (last_line [] b) else job_ended task limit b) (beyond (length b) limit h)

pub too_long_text : (g : RunSetup) (b : List ℕ) (s : Status) (old new : Option (List ℕ)) → OnEnd s (s ≡ input_status g b)
    → OnEnd s (HasWritten old new (input_text g b)) → s ≡ status.TooLong → HasWritten old new (input_ended g b)
too_long_text g b s old new answer text is =
    let P : Status → Type 0 = λ t. OnEnd t (t ≡ input_status g b) in
    let Q : Status → Type 0 = λ t. OnEnd t (HasWritten old new (input_text g b)) in
    let R : List ℕ → Type 0 = λ t. HasWritten old new t in
    let e : status.TooLong ≡ input_status g b = subst P is answer in
    let long = too_long g b (sym e) in
    let written : HasWritten old new (input_text g b) = subst Q is text in
    subst R (text_in g b long.0 long.1 ∙ long_text (task_with long.0 g.delegates) g.limit b long.2 ∙ sym (ended_in g b long.0 long.1)) written

-- a program that is refused
reading_text : (task : Task) (p : List ℕ) (lines : List (List ℕ)) → lines_text (reading task p) lines
    ≡ (if has_mark lines then begun_text task (p ++ joined (before_mark lines)) ++ lines_text (begun task (p ++ joined (before_mark lines))) (after_mark lines) else [])
reading_text task p [] = refl
reading_text task p (line ∷ lines) =
    elim (is_mark line) as (λ v. (if v then begun_text task p else []) ++ lines_text (if v then begun task p else reading task (p ++ line ++ 10 ∷ [])) lines
    ≡ (if v || has_mark lines then begun_text task (p ++ joined (elim v [ true ↦ [] | false ↦ line ∷ before_mark lines ]))
    ++ lines_text (begun task (p ++ joined (elim v [ true ↦ [] | false ↦ line ∷ before_mark lines ]))) (elim v [ true ↦ lines | false ↦ after_mark lines ]) else [])) [
      | true ↦ ap (λ q. begun_text task q ++ lines_text (begun task q) lines) (sym (append-nil p))
      | false ↦ reading_text task (p ++ line ++ 10 ∷ []) lines
          ∙ ap (λ q. if has_mark lines then begun_text task q ++ lines_text (begun task q) (after_mark lines) else []) (seam p line (joined (before_mark lines)))
    ]

-- once it is refused nothing more is printed
refused_rest : (es : List Plug) (fault : ProgramFault) (program : Result Begun ProgramFault) (lines : List (List ℕ)) → program ≡ Err fault
    → begun_text_by program ++ lines_text (begun_by es program) lines ≡ fault_line fault
refused_rest es fault program lines e =
    ap (λ r. begun_text_by r ++ lines_text (begun_by es r) lines) e
    ∙ ap (λ t. fault_line fault ++ t) (lines_text-stopped stop.BadProgram lines) ∙ append-nil (fault_line fault)

refused_last : (es : List Plug) (fault : ProgramFault) (program : Result Begun ProgramFault) (lines : List (List ℕ)) (last : List ℕ) → program ≡ Err fault
    → last_text (after_lines (begun_by es program) lines) last ≡ []
refused_last es fault program lines last e =
    ap (λ r. last_text (after_lines (begun_by es r) lines) last) e ∙ ap (λ at. last_text at last) (after_lines-stopped stop.BadProgram lines)

refused_end : (task : Task) (b : List ℕ) (fault : ProgramFault) → program_in task.mode (program_part_of b) ≡ Err fault
    → lines_text (start task) (ended_lines [] b) ++ last_text (after_lines (start task) (ended_lines [] b)) (last_line [] b) ≡ fault_line fault
unfolding begun begun_text program_part_of
refused_end task b fault =
    let lines = ended_lines [] b in
    let last = last_line [] b in
    let goal : Bool → Type 0 = λ v. program_in task.mode (if v then joined (before_mark lines) else (if is_mark last then joined lines else b)) ≡ Err fault
    → (if v then begun_text task (joined (before_mark lines)) ++ lines_text (begun task (joined (before_mark lines))) (after_mark lines) else [])
    ++ last_text (if v then after_lines (begun task (joined (before_mark lines))) (after_mark lines) else reading task (joined lines)) last ≡ fault_line fault in
    let both : goal (has_mark lines) = elim (has_mark lines) as goal [
      | true ↦ λ e. ap₂ (λ a b. a ++ b) (refused_rest task.delegates fault (program_in task.mode (joined (before_mark lines))) (after_mark lines) e)
          (refused_last task.delegates fault (program_in task.mode (joined (before_mark lines))) (after_mark lines) last e) ∙ append-nil (fault_line fault)
      | false ↦ λ e. ap (λ q. begun_text task (if is_mark last then joined lines else q)) (joined_lines [] b) ∙ ap begun_text_by e
    ] in
    λ e. ap₂ (λ a at. a ++ last_text at last) (reading_text task [] lines) (reading_lines task [] lines) ∙ both e

refused_past : (task : Task) (b : List ℕ) (fault : ProgramFault) → has_mark (ended_lines [] b) ≡ true → program_in task.mode (program_part_of b) ≡ Err fault
    → lines_text (start task) (ended_lines [] b) ≡ fault_line fault
unfolding begun begun_text program_part_of
refused_past task b fault =
    let lines = ended_lines [] b in
    let last = last_line [] b in
    let goal : Bool → Type 0 = λ v. v ≡ true → program_in task.mode (if v then joined (before_mark lines) else (if is_mark last then joined lines else b)) ≡ Err fault
    → (if v then begun_text task (joined (before_mark lines)) ++ lines_text (begun task (joined (before_mark lines))) (after_mark lines) else []) ≡ fault_line fault in
    let both : goal (has_mark lines) = elim (has_mark lines) as goal [
      | true ↦ λ m e. refused_rest task.delegates fault (program_in task.mode (joined (before_mark lines))) (after_mark lines) e
      | false ↦ λ m e. cc
    ] in
    λ m e. reading_text task [] lines ∙ both m e

past_text : (task : Task) (limit : ℕ) (b : List ℕ) (fault : ProgramFault) → has_mark (ended_lines [] (take limit b)) ≡ true
    → program_in task.mode (program_part_of (take limit b)) ≡ Err fault → job_ended task limit b ≡ fault_line fault
unfolding job_ended
past_text task limit b fault marked e = refused_past task (take limit b) fault marked e

bad_text : (g : RunSetup) (b : List ℕ) (fault : ProgramFault) → IsBadProgram g b → IsRefusedFor g b fault → input_text g b ≡ fault_line fault
bad_text g b fault (m, asked, which, err) (mode, named, e) =
    text_in g b mode named
    ∙ (elim (sized (length b) g.limit) [
      | inl fits ↦ end_run_text (task_with mode g.delegates) g.limit b fits ∙ refused_end (task_with mode g.delegates) b fault (cut_program mode g.limit b fits ∙ e)
      | inr long ↦ elim which [
        | inl fits ↦ absurd (omega arith)
        | inr marked ↦ long_text (task_with mode g.delegates) g.limit b long ∙ past_text (task_with mode g.delegates) g.limit b fault marked e
      ]
    ])

pub bad_program_text : (g : RunSetup) (b : List ℕ) (s : Status) (old new : Option (List ℕ)) (fault : ProgramFault)
    → OnEnd s (s ≡ input_status g b) → OnEnd s (HasWritten old new (input_text g b)) → s ≡ status.BadProgram
    → IsRefusedFor g b fault → HasWritten old new (fault_line fault)
bad_program_text g b s old new fault answer text is e =
    let P : Status → Type 0 = λ t. OnEnd t (t ≡ input_status g b) in
    let Q : Status → Type 0 = λ t. OnEnd t (HasWritten old new (input_text g b)) in
    let R : List ℕ → Type 0 = λ t. HasWritten old new t in
    let answer_is : status.BadProgram ≡ input_status g b = subst P is answer in
    let written : HasWritten old new (input_text g b) = subst Q is text in
    subst R (bad_text g b fault (bad_program g b (sym answer_is)) e) written

-- ---- a frame with a fault: its line ends the text

ended_all : (task : Task) (limit : ℕ) (b : List ℕ) → job_ended task limit b ≡ lines_text (start task) (ended_lines [] (take limit b))
unfolding job_ended
ended_all task limit b = refl

-- a run that goes on
abbrev IsGoing : At → Type 0
IsGoing (reading task part) = Unit {0}
IsGoing (running s lines some) = Unit {0}
IsGoing checked = Unit {0}
IsGoing (stopped stop) = ⊥

going_or_stopped : (at : At) → IsGoing at ⊎ ((why : RunStop) × (at ≡ stopped why))
going_or_stopped (reading task part) = inl tt
going_or_stopped (running s lines some) = inl tt
going_or_stopped checked = inl tt
going_or_stopped (stopped why) = inr (why, refl)

ends_after : (front text : List ℕ) → EndsInFault text → EndsInFault (front ++ text)
ends_after front text ends = (front ++ ends.0, ends.1, ap (λ t. front ++ t) ends.2 ∙ sym (append_assoc front ends.0 (fault_text ends.1)))

ends_before : (text more : List ℕ) → more ≡ [] → EndsInFault text → EndsInFault (text ++ more)
ends_before text more none ends = (ends.0, ends.1, ap (λ t. text ++ t) none ∙ append-nil text ∙ ends.2)

never_begun : (es : List Plug) (r : Result Begun ProgramFault) → begun_by es r ≡ stopped stop.FrameFault → ⊥
never_begun es (Ok (to_run c)) e = cc
never_begun es (Ok (to_check count)) e = cc
never_begun es (Err fault) e = cc

never_begun_task : (task : Task) (part : List ℕ) → begun task part ≡ stopped stop.FrameFault → ⊥
unfolding begun
never_begun_task task part e = never_begun task.delegates (program_in task.mode part) e

ends_step : (s : RunState) (number : ℕ) (some : Bool) (o : Came) → stepped o s number some ≡ stopped stop.FrameFault → EndsInFault (stepped_text o number)
ends_step s number some (went next text) e = cc
ends_step s number some (refused why) e = cc
ends_step s number some (faulted fault) e = ([], fault, refl)

ends_asked : (s : RunState) (number : ℕ) (some : Bool) (a : Asked) → after_asked s number some a ≡ stopped stop.FrameFault → EndsInFault (asked_text s number a)
ends_asked s number some asked.Nothing e = cc
ends_asked s number some (asked.Entry entry) e = ends_step s number some (entry_step s entry) e
ends_asked s number some (asked.Refused why) e = cc

ends_script_line : (s : RunState) (number : ℕ) (some : Bool) (line : List ℕ) → after_script_line s number some line ≡ stopped stop.FrameFault
    → EndsInFault (script_text s number line)
unfolding after_script_line script_text
ends_script_line s number some line e = ends_asked s number some (asked_of (trimmed line)) e

never_reading : (v : Bool) (task : Task) (part more : List ℕ) → (if v then begun task part else reading task more) ≡ stopped stop.FrameFault → ⊥
never_reading true task part more e = never_begun_task task part e
never_reading false task part more e = cc

ends_line : (at : At) (line : List ℕ) → IsGoing at → after_line at line ≡ stopped stop.FrameFault → EndsInFault (line_text at line)
ends_line (reading task part) line going e = absurd (never_reading (is_mark line) task part (part ++ line ++ 10 ∷ []) e)
ends_line (running s lines some) line going e = ends_script_line s (lines + 1) some line e
ends_line checked line going e = cc
ends_line (stopped why) line going e = absurd going

ends_lines : (at : At) (lines : List (List ℕ)) → IsGoing at → after_lines at lines ≡ stopped stop.FrameFault → EndsInFault (lines_text at lines)
ends_lines (stopped why) [] going e = absurd going
ends_lines (reading task part) [] going e = cc
ends_lines (running s n some) [] going e = cc
ends_lines checked [] going e = cc
ends_lines at (line ∷ lines) going e =
    elim (going_or_stopped (after_line at line)) [
      | inl on ↦ ends_after (line_text at line) (lines_text (after_line at line) lines) (ends_lines (after_line at line) lines on e)
      | inr halt ↦
          let same : stopped halt.0 ≡ stopped stop.FrameFault = sym (after_lines-stopped halt.0 lines) ∙ ap (λ at. after_lines at lines) (sym halt.1) ∙ e in
          ends_before (line_text at line) (lines_text (after_line at line) lines) (ap (λ at. lines_text at lines) halt.1 ∙ lines_text-stopped halt.0 lines)
          (ends_line at line going (halt.1 ∙ same))
    ]

ends_last : (at : At) (line : List ℕ) → IsGoing at → after_last at line ≡ stopped stop.FrameFault → EndsInFault (last_text at line)
ends_last (reading task part) line going e = absurd (never_begun_task task (program_part part line) e)
ends_last (running s lines some) line going e = ends_script_line s (lines + 1) some line e
ends_last checked line going e = cc
ends_last (stopped why) line going e = absurd going

at_fault : (at : At) → end_status at ≡ status.FrameFault → at ≡ stopped stop.FrameFault
at_fault (reading task part) e = cc
at_fault (running s lines true) e = cc
at_fault (running s lines false) e = cc
at_fault checked e = cc
at_fault (stopped stop.BadProgram) e = cc
at_fault (stopped stop.FrameFault) e = refl

over_fault : (at : At) → over_status at ≡ status.FrameFault → at ≡ stopped stop.FrameFault
over_fault (reading task part) e = cc
over_fault (running s lines some) e = cc
over_fault checked e = cc
over_fault (stopped stop.BadProgram) e = cc
over_fault (stopped stop.FrameFault) e = refl

ends_whole : (task : Task) (lines : List (List ℕ)) (last : List ℕ) → end_status (after_last (after_lines (start task) lines) last) ≡ status.FrameFault
    → EndsInFault (lines_text (start task) lines ++ last_text (after_lines (start task) lines) last)
ends_whole task lines last e =
    let place = after_lines (start task) lines in
    let fault : after_last place last ≡ stopped stop.FrameFault = at_fault (after_last place last) e in
    elim (going_or_stopped place) [
      | inl on ↦ ends_after (lines_text (start task) lines) (last_text place last) (ends_last place last on fault)
      | inr halt ↦
          let same : stopped halt.0 ≡ stopped stop.FrameFault = ap (λ at. after_last at last) (sym halt.1) ∙ fault in
          ends_before (lines_text (start task) lines) (last_text place last) (ap (λ at. last_text at last) halt.1) (ends_lines (start task) lines tt (halt.1 ∙ same))
    ]

ends_job : (task : Task) (limit : ℕ) (b : List ℕ) → job_status task limit b ≡ status.FrameFault → EndsInFault (job_text task limit b)
ends_job task limit b e =
    let P : List ℕ → Type 0 = λ t. EndsInFault t in
    elim (sized (length b) limit) [
      | inl fits ↦ subst P (sym (end_run_text task limit b fits)) (ends_whole task (ended_lines [] b) (last_line [] b) (sym (end_run_status task limit b fits) ∙ e))
      | inr long ↦ subst P (sym (long_text task limit b long ∙ ended_all task limit b))
          (ends_lines (start task) (ended_lines [] (take limit b)) tt (over_fault _ (sym (over_run_is task limit b long) ∙ e)))
    ]

pub fault_text_last : (g : RunSetup) (b : List ℕ) (s : Status) → OnEnd s (s ≡ input_status g b) → s ≡ status.FrameFault → EndsInFault (input_text g b)
fault_text_last g b s answer is =
    let P : Status → Type 0 = λ t. OnEnd t (t ≡ input_status g b) in
    let Q : List ℕ → Type 0 = λ t. EndsInFault t in
    let e : input_status g b ≡ status.FrameFault = sym (subst P is answer) in
    let fault = frame_faulted g b e in
    subst Q (sym (text_in g b fault.0 fault.1)) (ends_job (task_with fault.0 g.delegates) g.limit b (sym (in_mode g b fault.0 fault.1) ∙ e))
