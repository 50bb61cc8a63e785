-- The text and the status of a run, by its lines.
use Rattle.std.specs.Prelude.{ℕ, ◌+◌, Bool, true, false, List, [], ◌∷◌, ◌++◌, length, take, nat_le, codes, Option, Some, None, Result, Ok, Err, if◌then◌else◌}
use Rattle.std.specs.Fmt.{decimal}
use Rattle.delegates.specs.Table.{Plug}
use Rattle.frame_run.specs.Lines.{ended_lines, last_line, trimmed, is_mark}
use Rattle.frame_run.specs.Program.{Begun, to_run, to_check, program_in}
use Rattle.frame_run.specs.Script.{asked_of, refused_text}
use Rattle.session_form.specs.FaultText.{fault_text}
use Rattle.live_session.specs.EntryStep.{entry_step}
use Rattle.live_session.specs.RunState.{RunState, Came, went, refused, faulted, first_run}
use Rattle.frame_run.specs.Demo.{summary}
use Rattle.frame_run.specs.Words.{RunSetup, request_given, mode_given, input_given, Task, task_with}
use Rattle.frame_run.specs.declared.words.Mode.{Mode}
use Rattle.frame_run.specs.declared.words.Request.{Request}
use Rattle.frame_run.specs.declared.words.Request.TheVariants.{Input, Demo}
use Rattle.frame_run.specs.declared.program.ProgramFault.{ProgramFault}
use Rattle.frame_run.specs.declared.program.ProgramFault.TheVariants as program_fault
use Rattle.frame_run.specs.declared.script.Asked.{Asked}
use Rattle.frame_run.specs.declared.script.Asked.TheVariants as asked
use Rattle.frame_run.specs.declared.stage.RunStop.{RunStop}
use Rattle.frame_run.specs.declared.stage.RunStop.TheVariants as stop
use Rattle.frame_run.specs.declared.status.Status.{Status}
use Rattle.frame_run.specs.declared.status.Status.TheVariants as status

-- Where a run stands between two lines of its input: in the program part, with its bytes so far; in the script, with the
-- run's state, the number of script lines so far and whether one was refused; in a script that isn't run, since the
-- program is only checked; or stopped, with what stopped it.
pub data At : Type 0 where
  reading : Task → List ℕ → At
  running : RunState → ℕ → Bool → At
  checked : At
  stopped : RunStop → At

-- where a run stands before its first line
abbrev pub start : Task → At
start task = reading task []

-- the name of a component, or `-` outside components
abbrev pub name_or_dash : Option (List ℕ) → List ℕ
name_or_dash None = codes "-"
name_or_dash (Some name) = name

-- what is printed of a program whose form breaks a rule, and of one whose check fails
abbrev pub shape_line : ℕ → List ℕ → List ℕ
shape_line code place = codes "program shape " ++ (decimal code ++ (codes " " ++ (place ++ codes "\n")))

abbrev pub check_line : ℕ → List ℕ → List ℕ
check_line code name = codes "program check " ++ (decimal code ++ (codes " " ++ (name ++ codes "\n")))

-- what is printed of a program that is refused
abbrev pub fault_line : ProgramFault → List ℕ
fault_line program_fault.Json = codes "program json\n"
fault_line (program_fault.Shape code place) = shape_line code place
fault_line (program_fault.Check code component) = check_line code (name_or_dash component)

-- what is printed of a program that is checked, with so many components
abbrev pub checked_text : ℕ → List ℕ
checked_text count = codes "checked " ++ (decimal count ++ codes "\n")

-- where it stands when the program part has come, and what is printed then
abbrev pub begun_by : List Plug → Result Begun ProgramFault → At
begun_by delegates (Ok (to_run c)) = running (first_run c delegates) 0 false
begun_by delegates (Ok (to_check count)) = checked
begun_by delegates (Err f) = stopped stop.BadProgram

abbrev pub begun_text_by : Result Begun ProgramFault → List ℕ
begun_text_by (Ok (to_run c)) = []
begun_text_by (Ok (to_check count)) = checked_text count
begun_text_by (Err f) = fault_line f

unfoldable pub begun : Task → List ℕ → At
begun task part = begun_by task.delegates (program_in task.mode part)

unfoldable pub begun_text : Task → List ℕ → List ℕ
begun_text task part = begun_text_by (program_in task.mode part)

-- where it stands after a line with this number, by what that came to: a fault of a frame ends the run
abbrev pub stepped : Came → RunState → ℕ → Bool → At
stepped (went next text) s number some_refused = running next number some_refused
stepped (refused why) s number some_refused = running s number true
stepped (faulted fault) s number some_refused = stopped stop.FrameFault

-- what is printed of it
abbrev pub stepped_text : Came → ℕ → List ℕ
stepped_text (went next text) number = text
stepped_text (refused why) number = refused_text number why
stepped_text (faulted fault) number = fault_text fault

-- a script line with this number, by what it asks for: an empty line does nothing, what is read is one step, and a line that
-- can't be read is refused
abbrev pub after_asked : RunState → ℕ → Bool → Asked → At
after_asked s number some_refused asked.Nothing = running s number some_refused
after_asked s number some_refused (asked.Entry entry) = stepped (entry_step s entry) s number some_refused
after_asked s number some_refused (asked.Refused refusal) = running s number true

abbrev pub asked_text : RunState → ℕ → Asked → List ℕ
asked_text s number asked.Nothing = []
asked_text s number (asked.Entry entry) = stepped_text (entry_step s entry) number
asked_text s number (asked.Refused refusal) = refused_text number refusal

unfoldable pub after_script_line : RunState → ℕ → Bool → List ℕ → At
after_script_line s number some_refused line = after_asked s number some_refused (asked_of (trimmed line))

unfoldable pub script_text : RunState → ℕ → List ℕ → List ℕ
script_text s number line = asked_text s number (asked_of (trimmed line))

-- one more line of the input
abbrev pub after_line : At → List ℕ → At
after_line (reading task part) line = if is_mark line then begun task part else reading task (part ++ line ++ 10 ∷ [])
after_line (running s lines some_refused) line = after_script_line s (lines + 1) some_refused line
after_line checked line = checked
after_line (stopped stop) line = stopped stop

abbrev pub line_text : At → List ℕ → List ℕ
line_text (reading task part) line = if is_mark line then begun_text task part else []
line_text (running s lines some_refused) line = script_text s (lines + 1) line
line_text checked line = []
line_text (stopped stop) line = []

-- lines, one after the other
abbrev pub after_lines : At → List (List ℕ) → At
after_lines at [] = at
after_lines at (line ∷ lines) = after_lines (after_line at line) lines

abbrev pub lines_text : At → List (List ℕ) → List ℕ
lines_text at [] = []
lines_text at (line ∷ lines) = line_text at line ++ lines_text (after_line at line) lines

-- the end of the input, after what has come of a last line: in the program part it belongs to that part, unless it ends it
abbrev pub program_part : List ℕ → List ℕ → List ℕ
program_part part line = if is_mark line then part else part ++ line

abbrev pub after_last : At → List ℕ → At
after_last (reading task part) line = begun task (program_part part line)
after_last (running s lines some_refused) line = after_line (running s lines some_refused) line
after_last checked line = checked
after_last (stopped stop) line = stopped stop

abbrev pub last_text : At → List ℕ → List ℕ
last_text (reading task part) line = begun_text task (program_part part line)
last_text (running s lines some_refused) line = line_text (running s lines some_refused) line
last_text checked line = []
last_text (stopped stop) line = []

-- the status of a stopped run
abbrev pub stop_status : RunStop → Status
stop_status stop.BadProgram = status.BadProgram
stop_status stop.FrameFault = status.FrameFault

-- the status at the end of the input
abbrev pub end_status : At → Status
end_status (reading task part) = status.BadProgram
end_status (running s lines some_refused) = if some_refused then status.SomeRefused else status.AllAccepted
end_status checked = status.AllAccepted
end_status (stopped stop) = stop_status stop

-- the status where more bytes come than the limit
abbrev pub over_status : At → Status
over_status (reading task part) = status.TooLong
over_status (running s lines some_refused) = status.TooLong
over_status checked = status.TooLong
over_status (stopped stop) = stop_status stop

-- after the lines that end within the limit: where the run stands, and the text so far
unfoldable pub ended_at : Task → ℕ → List ℕ → At
ended_at task limit bytes = after_lines (start task) (ended_lines [] (take limit bytes))

unfoldable pub job_ended : Task → ℕ → List ℕ → List ℕ
job_ended task limit bytes = lines_text (start task) (ended_lines [] (take limit bytes))

-- the text and the status of a task over these bytes
unfoldable pub job_text : Task → ℕ → List ℕ → List ℕ
job_text task limit bytes =
    if nat_le (length bytes) limit then job_ended task limit bytes ++ last_text (ended_at task limit bytes) (last_line [] bytes)
    else job_ended task limit bytes

unfoldable pub job_status : Task → ℕ → List ℕ → Status
job_status task limit bytes =
    if nat_le (length bytes) limit then end_status (after_last (ended_at task limit bytes) (last_line [] bytes))
    else over_status (ended_at task limit bytes)

-- by the mode that the words ask for, where they aren't refused
abbrev pub text_for : Option Mode → RunSetup → List ℕ → List ℕ
text_for None g bytes = []
text_for (Some mode) g bytes = job_text (task_with mode g.delegates) g.limit bytes

abbrev pub status_for : Option Mode → RunSetup → List ℕ → Status
status_for None g bytes = status.BadWords
status_for (Some mode) g bytes = job_status (task_with mode g.delegates) g.limit bytes

abbrev pub ended_for : Option Mode → RunSetup → List ℕ → List ℕ
ended_for None g bytes = []
ended_for (Some mode) g bytes = job_ended (task_with mode g.delegates) g.limit bytes

-- the text and the status of the job over its input, and the text of the lines that end within it and within the limit
unfoldable pub input_text : RunSetup → List ℕ → List ℕ
input_text g bytes = text_for (mode_given g) g bytes

unfoldable pub input_status : RunSetup → List ℕ → Status
input_status g bytes = status_for (mode_given g) g bytes

unfoldable pub input_ended : RunSetup → List ℕ → List ℕ
input_ended g bytes = ended_for (mode_given g) g bytes

-- what is written of a text: mode `demo` writes its summary alone, and none of that waits for more bytes
abbrev pub written_by : Option Request → List ℕ → List ℕ → List ℕ
written_by None whole ended = ended
written_by (Some (Input mode)) whole ended = ended
written_by (Some (Demo seed size)) whole ended = summary seed size whole

-- the text and the status of a run over these bytes, and the text of the lines that end within them and within the limit
unfoldable pub text_of : RunSetup → List ℕ → List ℕ
text_of g bytes = written_by (request_given g) (input_text g (input_given g bytes)) (input_text g (input_given g bytes))

unfoldable pub status_of : RunSetup → List ℕ → Status
status_of g bytes = input_status g (input_given g bytes)

unfoldable pub ended_text_of : RunSetup → List ℕ → List ℕ
ended_text_of g bytes = written_by (request_given g) (input_text g (input_given g bytes)) (input_ended g (input_given g bytes))
