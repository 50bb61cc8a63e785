-- What a cell shows: all drawings in paint order, each on what was drawn before it.
use Rattle.std.specs.Prelude.{ℕ, ◌-◌, ◌/◌, pos, ◌-ℤ◌, ◌+ℤ◌, unsigned_abs, Bool, true, ◌&&◌, int_le, int_lt, nat_lt, if◌then◌else◌, List, [], ◌∷◌, Option, Some, None}
use Rattle.fx_geom.specs.declared.shapes.Offset.{Offset}
use Rattle.fx_geom.specs.declared.shapes.Size.{Size}
use Rattle.fx_geom.specs.Offset.{offset_sum}
use Rattle.unicode_segmentation.specs.Grapheme.{graphemes}
use Rattle.text_cells.specs.Cluster.{cells_of}
use Rattle.draw_records.specs.declared.record.Record.{Record}
use Rattle.draw_records.specs.declared.record.Record.TheVariants.{Fill, Run}
use Rattle.layer_tree.specs.declared.layers.Layer.{Layer}
use Rattle.cell_raster.specs.declared.area.CellMiddle.{CellMiddle}
use Rattle.cell_raster.specs.declared.cell.Cell.{Cell}
use Rattle.cell_raster.specs.declared.cell.Glyph.{Glyph}
use Rattle.cell_raster.specs.declared.cell.Glyph.TheVariants.{Blank, Part}
use Rattle.cell_raster.specs.Area.{middle_of, area_of, holds, is_in_clip}
use Rattle.cell_raster.specs.Cell.{empty}
use Rattle.cell_raster.specs.Drawing.{Drawing, placed, frame_drawings}

-- what stands in a cell of a run, counted from its left: the clusters stand side by side, each in as many cells as it
-- takes
abbrev pub part_at : List (List ℕ) → ℕ → Option Glyph
part_at [] n = None
part_at (cluster ∷ clusters) n =
    if nat_lt n (cells_of cluster) then Some (Part cluster n) else part_at clusters (n - cells_of cluster)

-- a middle lies in the line of a run and not left of it
abbrev pub is_in_line : Size → Offset → CellMiddle → Bool
is_in_line cell at m =
    (int_le at.y (pos m.y) && int_lt (pos m.y) (at.y +ℤ pos cell.h)) && int_le at.x (pos m.x)

-- the part of a text, whose run stands at a place, on which a middle lies
abbrev pub part_on : Size → Offset → List ℕ → CellMiddle → Option Glyph
part_on cell at text m =
    if is_in_line cell at m then part_at (graphemes true text) (unsigned_abs (pos m.x -ℤ at.x) / cell.w) else None

-- a cell that a rectangle covers, and one in which a part of a run stands
abbrev pub filled : ℕ → Cell
filled color = record { back = color; ink = 0; glyph = Blank }

abbrev pub inked : ℕ → Option Glyph → Cell → Cell
inked color None c = c
inked color (Some part) c = record { back = c.back; ink = color; glyph = part }

-- a record of a layer that stands at a place, drawn on a cell: a rectangle covers it where it holds the middle, and a run
-- writes the part on which the middle lies
abbrev pub recorded : Size → CellMiddle → Offset → Record → Cell → Cell
recorded cell m at (Fill rect color) c = if holds (area_of (placed at rect)) m then filled color else c
recorded cell m at (Run by color text) c = inked color (part_on cell (offset_sum at by) text m) c

-- a drawing is drawn where the middle lies in its clip
abbrev pub drawn_on : Size → CellMiddle → Drawing → Cell → Cell
drawn_on cell m d c = if is_in_clip d.clip m then recorded cell m d.at d.what c else c

abbrev pub all_drawn : Size → CellMiddle → List Drawing → Cell → Cell
all_drawn cell m [] c = c
all_drawn cell m (d ∷ ds) c = all_drawn cell m ds (drawn_on cell m d c)

-- what the cell in a column and a row shows of drawings, and of a frame's layers
abbrev pub shown_of : Size → List Drawing → ℕ → ℕ → Cell
shown_of cell ds column row = all_drawn cell (middle_of cell column row) ds empty

abbrev pub shown_at : Size → Layer → ℕ → ℕ → Cell
shown_at cell root column row = shown_of cell (frame_drawings root) column row
