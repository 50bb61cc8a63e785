-- How a function of the program answers a reading: with what the reading gives, or for want of memory.
use Rattle.std.specs.Prelude.{◌≡◌, Result, Ok, Err}
use Rattle.script_lines.specs.Table.{BadLine, too_long, not_utf8, unknown_line, bad_number}
use Rattle.script_lines.specs.declared.fault.LineFault.{LineFault}
use Rattle.script_lines.specs.declared.fault.LineFault.TheVariants as fault

-- the fault is the reading's, or want of memory
abbrev pub FaultsAs : {A : Type 0} → LineFault → Result A BadLine → Type 0
FaultsAs fault.LineTooLong reading = reading ≡ Err too_long
FaultsAs fault.NotUtf8 reading = reading ≡ Err not_utf8
FaultsAs fault.UnknownLine reading = reading ≡ Err unknown_line
FaultsAs fault.BadNumber reading = reading ≡ Err bad_number
FaultsAs fault.OutOfMemory reading = Unit {0}

abbrev pub Gives : {A : Type 0} → Result A LineFault → Result A BadLine → Type 0
Gives (Ok x) reading = reading ≡ Ok x
Gives (Err fault) reading = FaultsAs fault reading
