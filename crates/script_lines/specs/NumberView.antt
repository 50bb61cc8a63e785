-- How the program holds a number of a line.
use Rattle.std.specs.Prelude.{ℕ, ◌==◌, List, [], ◌∷◌, ℤ, Option, Some, None, if◌then◌else◌}
use Rattle.script_lines.specs.Numbers.{positive, negative}
use Rattle.script_lines.specs.declared.numbers.Number.{Number}

abbrev pub value_of : Number → ℤ
value_of number = if number.negative then negative number.magnitude else positive number.magnitude

-- what follows a first byte
abbrev pub strip_byte : ℕ → List ℕ → Option (List ℕ)
strip_byte byte [] = None
strip_byte byte (x ∷ xs) = if x == byte then Some xs else None
