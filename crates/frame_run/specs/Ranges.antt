-- In which ranges the numbers lie that the words and a script line give.
use Rattle.std.specs.Prelude.{◌≤◌, Option, Some, None}
use Rattle.script_lines.specs.EntryReading.{HasEntryRanges}
use Rattle.frame_run.specs.declared.script.Asked.{Asked}
use Rattle.frame_run.specs.declared.script.Asked.TheVariants as asked
use Rattle.frame_run.specs.declared.words.Request.{Request}
use Rattle.frame_run.specs.declared.words.Request.TheVariants.{Input, Demo}

-- those of what the words ask for
abbrev pub IsInRange : Option Request → Type 0
IsInRange None = Unit {0}
IsInRange (Some (Input mode)) = Unit {0}
IsInRange (Some (Demo seed size)) = (seed ≤ 4294967295) × (1 ≤ size) × (size ≤ 4096)

-- those of what a line asks for
abbrev pub HasRanges : Asked → Type 0
HasRanges asked.Nothing = Unit {0}
HasRanges (asked.Entry entry) = HasEntryRanges entry
HasRanges (asked.Refused why) = Unit {0}
