-- Where a line lies in its text, and the text that is seen of it.
use Rattle.std.specs.Prelude.{ℕ, ◌≤◌, ◌==◌, true, false, List, [], ◌∷◌, reverse, slice_range}
use Rattle.std.specs.Str.{IsCharBoundary}
use Rattle.text_cells.specs.declared.line.Line.{Line}

-- a line lies in a text: it begins and ends between characters
pub record LiesInText (text : List ℕ) (line : Line) : Type 0 where
  pub in_order : line.start ≤ line.end
  pub start : IsCharBoundary text line.start
  pub end : IsCharBoundary text line.end

-- bytes, read from their end, without the U+0020 there
abbrev pub without_spaces : List ℕ → List ℕ
without_spaces [] = []
without_spaces (x ∷ xs) = elim (x == 32) [ true ↦ without_spaces xs | false ↦ x ∷ xs ]

-- bytes without the U+0020 at their end
abbrev pub unspaced : List ℕ → List ℕ
unspaced bytes = reverse (without_spaces (reverse bytes))

-- the text that is seen of a line: its bytes without the U+0020 at their end
abbrev pub text_of : List ℕ → Line → List ℕ
text_of text line = unspaced (slice_range text line.start line.end)
