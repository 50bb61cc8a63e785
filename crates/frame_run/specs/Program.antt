-- The program part of an input: read as JSON, walked as a program, and checked.
use Rattle.std.specs.Prelude.{ℕ, List, length, Option, Some, None, option_map, slice_get, Result, Ok, Err}
use Rattle.program_form.specs.Program.{PlainComponent, PlainProgram}
use Rattle.program_read.specs.ProgramWalk as walk
use Rattle.program_read.specs.Reading.{Unread, not_json, bad_form, read_as}
use Rattle.program_check.specs.Checked.{PlainChecked}
use Rattle.program_check.specs.ProgramCheck.{CheckedAt, checked_program}
use Rattle.frame_run.specs.declared.program.ProgramFault.{ProgramFault}
use Rattle.frame_run.specs.declared.program.ProgramFault.TheVariants.{Json, Shape, Check}
use Rattle.frame_run.specs.declared.words.Mode.{Mode}
use Rattle.frame_run.specs.declared.words.Mode.TheVariants as modes

-- the name of the component at a place, where there is one
abbrev pub name_at : List PlainComponent → Option ℕ → Option (List ℕ)
name_at components None = None
name_at components (Some place) = option_map (λ (c : PlainComponent). c.name) (slice_get components place)

-- what a program's check gives, or what is wrong first
abbrev pub after_check : List PlainComponent → CheckedAt PlainChecked → Result PlainChecked ProgramFault
after_check components (Ok c) = Ok c
after_check components (Err bad) = Err (Check bad.code (name_at components bad.component))

-- why bytes are refused as a program
abbrev pub refused_as : Unread → ProgramFault
refused_as not_json = Json
refused_as (bad_form code place) = Shape code place

abbrev pub after_reading : Result PlainProgram Unread → Result PlainChecked ProgramFault
after_reading (Ok p) = after_check p.components (checked_program p)
after_reading (Err why) = Err (refused_as why)

-- the checked program that the bytes are, or why they are none
unfoldable pub checked_of : List ℕ → Result PlainChecked ProgramFault
checked_of bytes = after_reading (read_as walk.program_of bytes)

-- how many components the program has that the bytes are, or why they are none
abbrev pub counted_from : Result PlainChecked ProgramFault → Result ℕ ProgramFault
counted_from (Ok c) = Ok (length c.components)
counted_from (Err fault) = Err fault

abbrev pub component_count : List ℕ → Result ℕ ProgramFault
component_count bytes = counted_from (checked_of bytes)

-- what a mode does with a program: it runs it, or says how many components it has
pub data Begun : Type 0 where
  to_run : PlainChecked → Begun
  to_check : ℕ → Begun

abbrev pub begun_with : {A : Type 0} → (A → Begun) → Result A ProgramFault → Result Begun ProgramFault
begun_with f (Ok x) = Ok (f x)
begun_with f (Err fault) = Err fault

-- the program part of an input in a mode, or why it is refused
abbrev pub program_in : Mode → List ℕ → Result Begun ProgramFault
program_in modes.Run part = begun_with to_run (checked_of part)
program_in modes.Check part = begun_with to_check (component_count part)
