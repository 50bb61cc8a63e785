-- The words of a script line.
use Rattle.std.specs.Prelude.{ℕ, ◌==◌, List, Bool, [], Option, Some, None}
use Rattle.std.specs.List.{slice_split, after_first}

-- words are separated by one U+0020
abbrev pub is_space : ℕ → Bool
is_space byte = byte == 32

abbrev pub words_of : List ℕ → List (List ℕ)
words_of line = slice_split is_space line

-- what stands after a line's first word
abbrev pub rest_of : List ℕ → List ℕ
rest_of line = after_first is_space line

-- the words of what stands after a word, where something does
abbrev pub words_after : Option (List ℕ) → List (List ℕ)
words_after None = []
words_after (Some rest) = words_of rest

-- what stands after a word, where something does
abbrev pub text_after : Option (List ℕ) → List ℕ
text_after None = []
text_after (Some rest) = rest
