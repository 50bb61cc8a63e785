use Rattle.std.proofs.Common.{◌≡◌, map}
use Rattle.std.specs.List.{range_with_len}
use Rattle.cell_raster.specs.Cell.{empty}
use Rattle.cell_raster.specs.View.{rows_in}
use Rattle.cell_raster.proofs.grid.empty_rows.Given as goal

abbrev pub invariant-loop-row : goal.invariant-loop-row
invariant-loop-row l = rows_in l.cells.items ≡ map (λ row. map (λ column. empty) (range_with_len 0 l.columns)) (range_with_len 0 l._row)
