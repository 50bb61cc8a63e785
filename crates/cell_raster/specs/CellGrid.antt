-- The grid of cells that a frame shows.
use Rattle.std.specs.Prelude.{ℕ, List, [], Option, Some, None, map, slice_get}
use Rattle.std.specs.Int.{div_ceil}
use Rattle.std.specs.List.{range_with_len}
use Rattle.fx_geom.specs.declared.shapes.Size.{Size}
use Rattle.layer_tree.specs.declared.layers.Layer.{Layer}
use Rattle.cell_raster.specs.declared.cell.Cell.{Cell}
use Rattle.cell_raster.specs.Drawing.{Drawing, frame_drawings}
use Rattle.cell_raster.specs.Shown.{shown_of}

-- so many columns, and the rows from above, each with a cell for each column
pub record CellGrid : Type 0 where
  pub columns : ℕ
  pub rows : List (List Cell)

-- before the first frame there are no cells
abbrev pub no_grid : CellGrid
no_grid = record { columns = 0; rows = [] }

-- so many cells a grid has at most
abbrev pub max_cells : ℕ
max_cells = 65536

-- as many columns and rows as it takes to cover a view
abbrev pub columns_of : Size → Size → ℕ
columns_of view cell = div_ceil view.w cell.w

abbrev pub rows_of : Size → Size → ℕ
rows_of view cell = div_ceil view.h cell.h

-- what the cells of a row show, and those of all rows
abbrev pub row_cells : Size → List Drawing → ℕ → ℕ → List Cell
row_cells cell ds columns row = map (λ column. shown_of cell ds column row) (range_with_len 0 columns)

abbrev pub grid_cells : Size → List Drawing → ℕ → ℕ → List (List Cell)
grid_cells cell ds columns rows = map (λ row. row_cells cell ds columns row) (range_with_len 0 rows)

-- the grid that a frame's layers show in a view
abbrev pub grid_of : Layer → Size → Size → CellGrid
grid_of root view cell =
    record {
      columns = columns_of view cell;
      rows = grid_cells cell (frame_drawings root) (columns_of view cell) (rows_of view cell);
    }

-- the cell in a column and a row, and none outside the grid
abbrev pub cell_in : Option (List Cell) → ℕ → Option Cell
cell_in None column = None
cell_in (Some cells) column = slice_get cells column

abbrev pub cell_at : CellGrid → ℕ → ℕ → Option Cell
cell_at g column row = cell_in (slice_get g.rows row) column
