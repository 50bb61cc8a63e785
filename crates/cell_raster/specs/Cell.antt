-- What one cell shows.
use Rattle.std.specs.Prelude.{◌==◌, Bool, true, false, not, ◌&&◌}
use Rattle.std.specs.Str.{bytes_eq}
use Rattle.cell_raster.specs.declared.cell.Cell.{Cell}
use Rattle.cell_raster.specs.declared.cell.Glyph.{Glyph}
use Rattle.cell_raster.specs.declared.cell.Glyph.TheVariants.{Blank, Part}

-- a cell on which nothing is drawn
abbrev pub empty : Cell
empty = record { back = 0; ink = 0; glyph = Blank }

abbrev pub same_glyph : Glyph → Glyph → Bool
same_glyph Blank Blank = true
same_glyph Blank (Part cluster part) = false
same_glyph (Part cluster part) Blank = false
same_glyph (Part cluster part) (Part other other_part) = bytes_eq cluster other && part == other_part

-- two cells show other things
abbrev pub differs : Cell → Cell → Bool
differs a b = not ((a.back == b.back && a.ink == b.ink) && same_glyph a.glyph b.glyph)
