-- The line of a record.
use Rattle.std.specs.Prelude.{ℕ, zero, suc, ◌/◌, ◌%◌, false, List, [], ◌∷◌, ◌++◌, codes}
use Rattle.std.specs.Fmt.{decimal, signed_decimal, digit_glyph}
use Rattle.fx_geom.specs.declared.shapes.Offset.{Offset}
use Rattle.fx_geom.specs.declared.shapes.Size.{Size}
use Rattle.draw_records.specs.declared.record.Record.{Record}
use Rattle.draw_records.specs.declared.record.Record.TheVariants.{Fill, Run}
use Rattle.draw_records.specs.Quoted.{quoted}

-- the last k hexadecimal digits of a number, in lower case, the highest first
abbrev pub hex_digits : ℕ → ℕ → List ℕ
hex_digits zero n = []
hex_digits (suc k) n = hex_digits k (n / 16) ++ digit_glyph false (n % 16) ∷ []

-- a color as its eight hexadecimal digits
unfoldable pub color_text : ℕ → List ℕ
color_text color = hex_digits 8 color

-- `X Y` and `W H`
abbrev pub place_text : Offset → List ℕ
place_text at = signed_decimal at.x ++ (codes " " ++ signed_decimal at.y)

abbrev pub extent_text : Size → List ℕ
extent_text size = decimal size.w ++ (codes " " ++ decimal size.h)

-- `rect X Y W H COLOR`, and `text X Y COLOR "TEXT"`
abbrev pub record_text : Record → List ℕ
record_text (Fill rect color) = codes "rect " ++ (place_text rect.at ++ (codes " " ++ (extent_text rect.size ++ (codes " " ++ (color_text color ++ codes "\n")))))
record_text (Run at color text) = codes "text " ++ (place_text at ++ (codes " " ++ (color_text color ++ (codes " " ++ (quoted text ++ codes "\n")))))
