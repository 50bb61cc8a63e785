-- When each status comes, said directly of the words, the delegates and the input.
use Rattle.std.specs.Prelude.{◌≡◌, ℕ, ◌<◌, ◌≤◌, Bool, true, false, ◌||◌, ◌⊎◌, List, [], ◌∷◌, ◌++◌, length, take, Option, Some, None, Result, Ok, Err, IsOk, IsErr, if◌then◌else◌}
use Rattle.delegates.specs.Table.{Plug}
use Rattle.session_form.specs.FaultText.{fault_text}
use Rattle.live_session.specs.EntryStep.{entry_step}
use Rattle.live_session.specs.RunState.{RunState, Came, went, refused, faulted, state_after, first_run}
use Rattle.build_form.specs.Step.{Fault}
use Rattle.frame_run.specs.Lines.{ended_lines, last_line, trimmed, is_mark}
use Rattle.frame_run.specs.Program.{Begun, to_run, to_check, program_in}
use Rattle.frame_run.specs.Script.{asked_of}
use Rattle.frame_run.specs.declared.script.Asked.{Asked}
use Rattle.frame_run.specs.declared.script.Asked.TheVariants as asked
use Rattle.frame_run.specs.Words.{RunSetup, mode_given}
use Rattle.frame_run.specs.declared.program.ProgramFault.{ProgramFault}
use Rattle.frame_run.specs.declared.words.Mode.{Mode}

-- whether one of the lines ends the program part
abbrev pub has_mark : List (List ℕ) → Bool
has_mark [] = false
has_mark (line ∷ lines) = is_mark line || has_mark lines

-- the lines before the first that ends the program part, and those after it
abbrev pub before_mark : List (List ℕ) → List (List ℕ)
before_mark [] = []
before_mark (line ∷ lines) = elim (is_mark line) [ true ↦ [] | false ↦ line ∷ before_mark lines ]

abbrev pub after_mark : List (List ℕ) → List (List ℕ)
after_mark [] = []
after_mark (line ∷ lines) = elim (is_mark line) [ true ↦ lines | false ↦ after_mark lines ]

-- lines, each with its U+000A
abbrev pub joined : List (List ℕ) → List ℕ
joined [] = []
joined (line ∷ lines) = line ++ 10 ∷ joined lines

-- the program part of an input: what comes before the first line `%%`, or all of it where there is none
unfoldable pub program_part_of : List ℕ → List ℕ
program_part_of bytes =
    if has_mark (ended_lines [] bytes) then joined (before_mark (ended_lines [] bytes))
    else (if is_mark (last_line [] bytes) then joined (ended_lines [] bytes) else bytes)

-- the script lines of an input: those after the first line `%%`, with the last one, which no U+000A ends
unfoldable pub script_of : List ℕ → List (List ℕ)
script_of bytes = if has_mark (ended_lines [] bytes) then after_mark (ended_lines [] bytes) ++ last_line [] bytes ∷ [] else []

-- those among them that a U+000A ends
unfoldable pub ended_script_of : List ℕ → List (List ℕ)
ended_script_of bytes = if has_mark (ended_lines [] bytes) then after_mark (ended_lines [] bytes) else []

-- whether a line was refused, and whether it was a frame with a fault
abbrev pub is_refused_step : Came → Bool
is_refused_step (went next text) = false
is_refused_step (refused why) = true
is_refused_step (faulted fault) = false

abbrev pub is_faulted_step : Came → Bool
is_faulted_step (went next text) = false
is_faulted_step (refused why) = false
is_faulted_step (faulted fault) = true

-- what a script line asks for, in a run's state: whether it is refused, since it can't be read or by the run; whether
-- it is a frame with a fault; and the state after it
abbrev pub is_refused_as : RunState → Asked → Bool
is_refused_as s asked.Nothing = false
is_refused_as s (asked.Entry entry) = is_refused_step (entry_step s entry)
is_refused_as s (asked.Refused why) = true

abbrev pub is_faulted_as : RunState → Asked → Bool
is_faulted_as s asked.Nothing = false
is_faulted_as s (asked.Entry entry) = is_faulted_step (entry_step s entry)
is_faulted_as s (asked.Refused why) = false

abbrev pub state_as : RunState → Asked → RunState
state_as s asked.Nothing = s
state_as s (asked.Entry entry) = state_after s (entry_step s entry)
state_as s (asked.Refused why) = s

-- the same of a script line
unfoldable pub is_refused : RunState → List ℕ → Bool
is_refused s line = is_refused_as s (asked_of (trimmed line))

unfoldable pub is_faulted : RunState → List ℕ → Bool
is_faulted s line = is_faulted_as s (asked_of (trimmed line))

unfoldable pub state_after_line : RunState → List ℕ → RunState
state_after_line s line = state_as s (asked_of (trimmed line))

-- whether some of these script lines, each in the state that those before it leave, is refused, and whether some is a frame
-- with a fault
abbrev pub some_refused : RunState → List (List ℕ) → Bool
some_refused s [] = false
some_refused s (line ∷ lines) = is_refused s line || some_refused (state_after_line s line) lines

abbrev pub some_faulted : RunState → List (List ℕ) → Bool
some_faulted s [] = false
some_faulted s (line ∷ lines) = is_faulted s line || some_faulted (state_after_line s line) lines

-- the same of the script of a program that is run; where the program is only checked, or refused, no line is
abbrev pub refused_in : List Plug → Result Begun ProgramFault → List (List ℕ) → Bool
refused_in delegates (Ok (to_run c)) lines = some_refused (first_run c delegates) lines
refused_in delegates (Ok (to_check count)) lines = false
refused_in delegates (Err fault) lines = false

abbrev pub faulted_in : List Plug → Result Begun ProgramFault → List (List ℕ) → Bool
faulted_in delegates (Ok (to_run c)) lines = some_faulted (first_run c delegates) lines
faulted_in delegates (Ok (to_check count)) lines = false
faulted_in delegates (Err fault) lines = false

-- whether some script line of an input is refused in a mode
abbrev pub refused_for : Option Mode → RunSetup → List ℕ → Bool
refused_for None g bytes = false
refused_for (Some mode) g bytes = refused_in g.delegates (program_in mode (program_part_of bytes)) (script_of bytes)

abbrev pub has_refused : RunSetup → List ℕ → Bool
has_refused g bytes = refused_for (mode_given g) g bytes

-- whether some script line of an input is a frame with a fault in a mode; and some of those that a U+000A ends
abbrev pub has_faulted : RunSetup → Mode → List ℕ → Bool
has_faulted g mode bytes = faulted_in g.delegates (program_in mode (program_part_of bytes)) (script_of bytes)

abbrev pub has_faulted_ended : RunSetup → Mode → List ℕ → Bool
has_faulted_ended g mode bytes = faulted_in g.delegates (program_in mode (program_part_of bytes)) (ended_script_of bytes)

-- The job is done to its end: the words ask for a mode, the input is no longer than the limit, its program is accepted, and
-- no frame has a fault.
abbrev pub IsDone : RunSetup → List ℕ → Type 0
IsDone g bytes = (mode : Mode) × (mode_given g ≡ Some mode) × (length bytes ≤ g.limit) × IsOk (program_in mode (program_part_of bytes))
    × (has_faulted g mode bytes ≡ false)

-- The program is refused. Where more bytes come than the limit, a line `%%` ended within it.
abbrev pub IsBadProgram : RunSetup → List ℕ → Type 0
IsBadProgram g bytes = (mode : Mode) × (mode_given g ≡ Some mode)
    × ((length bytes ≤ g.limit) ⊎ (has_mark (ended_lines [] (take g.limit bytes)) ≡ true))
    × IsErr (program_in mode (program_part_of (take g.limit bytes)))

-- A frame among the lines has a fault. Where more bytes come than the limit, its line ended within it.
abbrev pub IsFaulted : RunSetup → List ℕ → Type 0
IsFaulted g bytes = (mode : Mode) × (mode_given g ≡ Some mode)
    × (((length bytes ≤ g.limit) × (has_faulted g mode bytes ≡ true))
    ⊎ ((g.limit < length bytes) × (has_faulted_ended g mode (take g.limit bytes) ≡ true)))

-- More bytes come than the limit. Where a line `%%` ended within it, the program is accepted, and no frame whose line ended
-- within it has a fault.
abbrev pub IsTooLong : RunSetup → List ℕ → Type 0
IsTooLong g bytes = (mode : Mode) × (mode_given g ≡ Some mode) × (g.limit < length bytes)
    × (has_mark (ended_lines [] (take g.limit bytes)) ≡ true → IsOk (program_in mode (program_part_of (take g.limit bytes))))
    × (has_faulted_ended g mode (take g.limit bytes) ≡ false)

-- the program part within the limit is refused for this, in the mode that the words ask for
abbrev pub IsRefusedFor : RunSetup → List ℕ → ProgramFault → Type 0
IsRefusedFor g bytes fault = (mode : Mode) × (mode_given g ≡ Some mode) × (program_in mode (program_part_of (take g.limit bytes)) ≡ Err fault)

-- a text that ends with the line of a frame's fault
abbrev pub EndsInFault : List ℕ → Type 0
EndsInFault text = (front : List ℕ) × (fault : Fault) × (text ≡ front ++ fault_text fault)
