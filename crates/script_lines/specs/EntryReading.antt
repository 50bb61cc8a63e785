-- The reading of a script line as a run takes it: what it asks the run for, or why it is refused.
use Rattle.std.specs.Prelude.{ℕ, ◌≤◌, List, Option, Some, None, Result, Ok, Err}
use Rattle.script_lines.specs.EntryForms.{own_entry}
use Rattle.script_lines.specs.Numbers.{greatest_node, distance_reach, greatest_duration}
use Rattle.script_lines.specs.Ranges.{IsBetween, IsInRange}
use Rattle.script_lines.specs.Reading.{command_of}
use Rattle.script_lines.specs.Table.{BadLine, too_long, not_utf8, unknown_line, bad_number}
use Rattle.script_lines.specs.Words.{words_of}
use Rattle.script_lines.specs.declared.command.Command.{Command}
use Rattle.script_lines.specs.declared.entry.Entry.{Entry}
use Rattle.script_lines.specs.declared.entry.Entry.TheVariants as entry

abbrev pub some_entry : Result Entry BadLine → Result (Option Entry) BadLine
some_entry (Ok e) = Ok (Some e)
some_entry (Err bad) = Err bad

-- by the reading as a command of the session: what is none of these lines may be one of the run's own. No line of one table
-- begins as a line of the other.
abbrev pub entry_by : List ℕ → Result (Option Command) BadLine → Result (Option Entry) BadLine
entry_by line (Ok None) = Ok None
entry_by line (Ok (Some command)) = Ok (Some (entry.Line command))
entry_by line (Err too_long) = Err too_long
entry_by line (Err not_utf8) = Err not_utf8
entry_by line (Err unknown_line) = some_entry (own_entry (words_of line))
entry_by line (Err bad_number) = Err bad_number

-- The reading of a line without its end and what is dropped there. An empty line asks for nothing.
unfoldable pub entry_of : List ℕ → Result (Option Entry) BadLine
entry_of line = entry_by line (command_of line)

-- The numbers of what a line asks for lie in their ranges: a tween's ends are distances, and it takes at least one millisecond.
abbrev pub HasEntryRanges : Entry → Type 0
HasEntryRanges (entry.Line command) = IsInRange command
HasEntryRanges (entry.Tween node field from to ms way) =
    (node ≤ greatest_node) × IsBetween distance_reach from × IsBetween distance_reach to × (1 ≤ ms) × (ms ≤ greatest_duration)
HasEntryRanges entry.FocusNext = Unit {0}
HasEntryRanges entry.FocusPrev = Unit {0}
HasEntryRanges (entry.FocusOn node) = node ≤ greatest_node
HasEntryRanges entry.FocusNone = Unit {0}
HasEntryRanges entry.Press = Unit {0}
HasEntryRanges entry.Cells = Unit {0}
