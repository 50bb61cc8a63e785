-- Lines of bytes. A line ends at U+000A or at the end of the input.
use Rattle.std.specs.Prelude.{ℕ, Bool, true, false, ◌==◌, List, [], ◌∷◌, ◌++◌, reverse, codes, if◌then◌else◌}
use Rattle.std.specs.Str.{bytes_eq}

-- the lines whose U+000A is among the bytes, where start has come of the first one before
abbrev pub ended_lines : List ℕ → List ℕ → List (List ℕ)
ended_lines start [] = []
ended_lines start (x ∷ xs) = elim (x == 10) [ true ↦ start ∷ ended_lines [] xs | false ↦ ended_lines (start ++ x ∷ []) xs ]

-- what has come of a line whose U+000A is not among the bytes
abbrev pub last_line : List ℕ → List ℕ → List ℕ
last_line start [] = start
last_line start (x ∷ xs) = elim (x == 10) [ true ↦ last_line [] xs | false ↦ last_line (start ++ x ∷ []) xs ]

-- a line, read from its end, without one U+000D there
abbrev pub without_return : List ℕ → List ℕ
without_return [] = []
without_return (x ∷ xs) = if x == 13 then xs else x ∷ xs

-- a line, read from its end, without the U+0020 there
abbrev pub without_spaces : List ℕ → List ℕ
without_spaces [] = []
without_spaces (x ∷ xs) = elim (x == 32) [ true ↦ without_spaces xs | false ↦ x ∷ xs ]

-- a line without what is dropped at its end: one U+000D, and then all U+0020
unfoldable pub trimmed : List ℕ → List ℕ
trimmed line = reverse (without_spaces (without_return (reverse line)))

-- whether a line ends the program part
abbrev pub is_mark : List ℕ → Bool
is_mark line = bytes_eq (trimmed line) (codes "%%")
