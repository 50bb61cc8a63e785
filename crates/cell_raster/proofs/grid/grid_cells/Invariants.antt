use Rattle.std.proofs.Common.{◌≡◌, map, take}
use Rattle.cell_raster.specs.CellGrid.{grid_cells}
use Rattle.cell_raster.specs.Seen.{seen}
use Rattle.cell_raster.specs.View.{rows_in}
use Rattle.cell_raster.proofs.grid.grid_cells.Given as goal

abbrev pub invariant-loop-one : goal.invariant-loop-one
invariant-loop-one l = rows_in l.cells.items ≡ grid_cells l.cell (map seen (take l.one-index l.drawn)) l.columns l.rows
