-- What the code does to a grid, in the words of private contracts: each drawing in its turn, on the cells that lie in its block.
use Rattle.std.specs.Prelude.{◌≡◌, ℕ, ◌+◌, ◌-◌, ◌^◌, ◌<◌, ◌≤◌, pos, ◌+ℤ◌, Bool, ◌&&◌, List}
use Rattle.fx_geom.specs.declared.shapes.Offset.{Offset}
use Rattle.fx_geom.specs.declared.shapes.Size.{Size}
use Rattle.fx_geom.specs.Offset.{offset_sum}
use Rattle.draw_records.specs.declared.record.Record.{Record}
use Rattle.draw_records.specs.declared.record.Record.TheVariants.{Fill, Run}
use Rattle.cell_raster.specs.declared.area.Area.{Area}
use Rattle.cell_raster.specs.declared.block.Block.{Block}
use Rattle.cell_raster.specs.declared.cell.Cell.{Cell}
use Rattle.cell_raster.specs.Area.{middle_of, area_of, holds, clipped_to}
use Rattle.cell_raster.specs.Drawing.{Drawing, placed}
use Rattle.cell_raster.specs.Laws.{AllHave}
use Rattle.cell_raster.specs.Shown.{part_at, filled, inked, drawn_on}
use Rattle.cell_raster.specs.Stretch.{lies_in, within, changed}

-- a drawing, drawn on each cell of a row, and on those of all rows
abbrev pub row_drawn : Size → Drawing → ℕ → List Cell → List Cell
row_drawn cell d row cells = changed (λ column. drawn_on cell (middle_of cell column row) d) 0 cells

abbrev pub rows_drawn : Size → Drawing → List (List Cell) → List (List Cell)
rows_drawn cell d rows = changed (row_drawn cell d) 0 rows

-- the area on which a run that stands at a place can be seen: its line, from there on. Every middle lies left of 2^64
abbrev pub line_of : Size → Offset → Area
line_of cell at = record { left = at.x; top = at.y; right = pos (2 ^ 64); bottom = at.y +ℤ pos cell.h }

-- the area on which a record of a layer that stands at a place can be seen, and the one of a drawing
abbrev pub reach_of : Size → Offset → Record → Area
reach_of cell at (Fill rect color) = area_of (placed at rect)
reach_of cell at (Run by color text) = line_of cell (offset_sum at by)

abbrev pub reach : Size → Drawing → Area
reach cell d = clipped_to d.clip (reach_of cell d.at d.what)

-- a cell lies in a block
abbrev pub is_in_block : Block → ℕ → ℕ → Bool
is_in_block b column row = lies_in b.left b.right column && lies_in b.top b.bottom row

-- a block has exactly the cells, among so many columns and rows, whose middles lie in an area
pub record IsBlock (b : Block) (cell : Size) (area : Area) (columns rows : ℕ) : Type 0 where
  pub holds : (column row : ℕ) → column < columns → row < rows → holds area (middle_of cell column row) ≡ is_in_block b column row
  pub right : b.right ≤ columns
  pub bottom : b.bottom ≤ rows

-- a block, no edge of which lies past the other, reaches no further right than rows of one length
pub record LiesOn (b : Block) (rows : List (List Cell)) : Type 0 where
  pub columns : ℕ
  pub across : b.left ≤ b.right
  pub down : b.top ≤ b.bottom
  pub right : b.right ≤ columns
  pub whole : AllHave columns rows

-- a row with a stretch of its cells filled, and one with clusters written on a stretch of it, from a cell of theirs on
abbrev pub row_filled : ℕ → ℕ → ℕ → List Cell → List Cell
row_filled color from to cells = changed (within from to (λ k c. filled color)) 0 cells

abbrev pub row_written : ℕ → List (List ℕ) → ℕ → ℕ → ℕ → List Cell → List Cell
row_written color clusters skip from to cells =
    changed (within from to (λ k. inked color (part_at clusters (skip + (k - from))))) 0 cells

-- the rows of a block, all changed alike
abbrev pub block_rows : Block → (List Cell → List Cell) → List (List Cell) → List (List Cell)
block_rows b f rows = changed (within b.top b.bottom (λ row. f)) 0 rows
