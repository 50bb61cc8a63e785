-- Names of a program.
use Rattle.std.specs.Prelude.{ℕ, ◌==◌, ◌||◌, ◌&&◌, List, [], ◌∷◌, length, Bool, false, not, nat_le, if◌then◌else◌, Ok}
use Rattle.std.specs.List.{list_all}
use Rattle.std.specs.Char.{is_ascii_digit, is_ascii_alphanumeric}
use Rattle.serde_json.specs.Data.{Data}
use Rattle.program_read.specs.declared.fault.ShapeCode.TheVariants.{BadName}
use Rattle.program_read.specs.ShapeFault.{ShapeWalk, stops, and_then}
use Rattle.program_read.specs.Leaves.{string_of}

-- an ASCII letter, a digit or `_`
abbrev pub is_name_byte : ℕ → Bool
is_name_byte byte = is_ascii_alphanumeric byte || (byte == 95)

-- 1 to 32 of them, of which the first is no digit
abbrev pub is_name : List ℕ → Bool
is_name [] = false
is_name (first ∷ rest) =
    not (is_ascii_digit first) && nat_le (length (first ∷ rest)) 32 && list_all is_name_byte (first ∷ rest)

abbrev pub name_or_stop : List ℕ → ShapeWalk (List ℕ)
name_or_stop text = if is_name text then Ok text else stops BadName

-- the name that a value is: a string, and a name
abbrev pub name_of : Data → ShapeWalk (List ℕ)
name_of d = and_then (string_of d) name_or_stop
