-- The text of a grid.
use Rattle.std.specs.Prelude.{ℕ, ◌==◌, if◌then◌else◌, List, [], ◌∷◌, ◌++◌, codes}
use Rattle.draw_records.specs.Quoted.{quoted}
use Rattle.cell_raster.specs.declared.cell.Cell.{Cell}
use Rattle.cell_raster.specs.declared.cell.Glyph.{Glyph}
use Rattle.cell_raster.specs.declared.cell.Glyph.TheVariants.{Blank, Part}

-- an empty cell is a space, the first part of a cluster is the cluster, and its other parts are nothing
abbrev pub glyph_text : Glyph → List ℕ
glyph_text Blank = codes " "
glyph_text (Part cluster part) = if part == 0 then cluster else []

abbrev pub row_text : List Cell → List ℕ
row_text [] = []
row_text (c ∷ cs) = glyph_text c.glyph ++ row_text cs

-- a line for each row: its text in quotes
abbrev pub rows_text : List (List Cell) → List ℕ
rows_text [] = []
rows_text (cells ∷ rows) = (quoted (row_text cells) ++ codes "\n") ++ rows_text rows
