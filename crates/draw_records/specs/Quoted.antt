-- A text in quotes, on one line.
use Rattle.std.specs.Prelude.{ℕ, ◌||◌, ◌==◌, ◌/◌, ◌%◌, nat_lt, if◌then◌else◌, false, List, [], ◌∷◌, ◌++◌, codes}
use Rattle.std.specs.Fmt.{digit_glyph}

-- a control character as `\u` and four lower-case hexadecimal digits
abbrev pub unicode_escape : ℕ → List ℕ
unicode_escape b = codes "\\u00" ++ digit_glyph false (b / 16) ∷ digit_glyph false (b % 16) ∷ []

-- a byte of a text: quotes and backslashes have a backslash before them, control characters are escaped, and all else
-- stands as it is
abbrev pub escaped : ℕ → List ℕ
escaped b =
    if b == 34 || b == 92 then 92 ∷ b ∷ []
    else (if nat_lt b 32 || b == 127 then unicode_escape b
    else b ∷ [])

abbrev pub all_escaped : List ℕ → List ℕ
all_escaped [] = []
all_escaped (b ∷ bytes) = escaped b ++ all_escaped bytes

-- the text in quotes
abbrev pub quoted : List ℕ → List ℕ
quoted bytes = 34 ∷ [] ++ all_escaped bytes ++ 34 ∷ []
