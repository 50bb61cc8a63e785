-- What the lines of a script ask for, and why they are refused.
use Rattle.std.specs.Prelude.{ℕ, false, List, ◌++◌, codes, Option, Some, None, Result, Ok, Err}
use Rattle.std.specs.Fmt.{digits}
use Rattle.script_lines.specs.EntryReading.{entry_of}
use Rattle.script_lines.specs.declared.entry.Entry.{Entry}
use Rattle.live_session.specs.Refusals.{code_of, name_of}
use Rattle.script_lines.specs.Table.{BadLine, too_long, not_utf8, unknown_line, bad_number}
use Rattle.frame_run.specs.declared.script.Asked.{Asked}
use Rattle.frame_run.specs.declared.script.Asked.TheVariants as asked
use Rattle.live_session.specs.declared.refusal.LineRefusal.{LineRefusal}
use Rattle.live_session.specs.declared.refusal.LineRefusal.TheVariants as refusal

-- why a line is refused that can't be read
abbrev pub refusal_of : BadLine → LineRefusal
refusal_of too_long = refusal.LineTooLong
refusal_of not_utf8 = refusal.NotUtf8
refusal_of unknown_line = refusal.UnknownLine
refusal_of bad_number = refusal.BadNumber

-- what a line asks for, by its reading
abbrev pub asked_by : Result (Option Entry) BadLine → Asked
asked_by (Ok None) = asked.Nothing
asked_by (Ok (Some entry)) = asked.Entry entry
asked_by (Err bad) = asked.Refused (refusal_of bad)

-- what a line asks for, without what is dropped at its end
abbrev pub asked_of : List ℕ → Asked
asked_of line = asked_by (entry_of line)

-- what is printed of the script line with this number, which is refused
unfoldable pub refused_text : ℕ → LineRefusal → List ℕ
refused_text number refusal =
    codes "refused " ++ digits 10 false number ++ codes " " ++ digits 10 false (code_of refusal) ++ codes " " ++ name_of refusal ++ codes "\n"
