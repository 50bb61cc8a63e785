-- What bytes read as: what the walk gives, or why they read as nothing.
use Rattle.std.specs.Prelude.{◌==◌, ℕ, List, length, if◌then◌else◌, Option, Some, None, Result, Ok, Err}
use Rattle.std.specs.Str.Lossy.{utf8_valid_len}
use Rattle.serde_json.specs.Data.{Data}
use Rattle.serde_json.specs.Read.{read}
use Rattle.program_read.specs.ShapeFault.{ShapeWalk, code_number}

-- Why bytes read as nothing: they aren't JSON, or their form breaks a rule, with the number of its code, first at this place.
pub data Unread : Type 0 where
  not_json : Unread
  bad_form : ℕ → List ℕ → Unread

-- the bytes as JSON: they are UTF-8, and are read
unfoldable pub json_of : List ℕ → Option Data
json_of bytes = if utf8_valid_len bytes == length bytes then read bytes else None

-- what a walk gives, or its fault
abbrev pub by_walk : {A : Type 0} → ShapeWalk A → Result A Unread
by_walk (Ok x) = Ok x
by_walk (Err fault) = Err (bad_form (code_number fault.code) fault.place)

abbrev pub read_from : {A : Type 0} → (Data → ShapeWalk A) → Option Data → Result A Unread
read_from walk None = Err not_json
read_from walk (Some d) = by_walk (walk d)

-- what bytes read as under a walk
abbrev pub read_as : {A : Type 0} → (Data → ShapeWalk A) → List ℕ → Result A Unread
read_as walk bytes = read_from walk (json_of bytes)
