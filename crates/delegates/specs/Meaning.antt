-- What a delegate means: its kind, and the numbers of its fields.
use Rattle.std.specs.Prelude.{ℕ, ℤ, Bool, ◌||◌, List, codes, if◌then◌else◌}
use Rattle.std.specs.Str.{bytes_eq}

-- bars with a count and a color, a grid with a step and a color, or a corner with dx and dy
pub data Meaning : Type 0 where
  bars : ℤ → ℤ → Meaning
  grid : ℤ → ℤ → Meaning
  corner : ℤ → ℤ → Meaning

-- whether it has a field of this name
abbrev pub has_field : Meaning → List ℕ → Bool
has_field (bars count color) field = bytes_eq field (codes "count") || bytes_eq field (codes "color")
has_field (grid step color) field = bytes_eq field (codes "step") || bytes_eq field (codes "color")
has_field (corner dx dy) field = bytes_eq field (codes "dx") || bytes_eq field (codes "dy")

-- the same with another number in the field of this name, if there is one
abbrev pub with_field : Meaning → List ℕ → ℤ → Meaning
with_field (bars count color) field n = if bytes_eq field (codes "count") then bars n color else (if bytes_eq field (codes "color") then bars count n else bars count color)
with_field (grid step color) field n = if bytes_eq field (codes "step") then grid n color else (if bytes_eq field (codes "color") then grid step n else grid step color)
with_field (corner dx dy) field n = if bytes_eq field (codes "dx") then corner n dy else (if bytes_eq field (codes "dy") then corner dx n else corner dx dy)
