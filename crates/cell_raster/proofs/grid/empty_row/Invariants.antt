use Rattle.std.proofs.Common.{◌≡◌, map}
use Rattle.std.specs.List.{range_with_len}
use Rattle.cell_raster.specs.Cell.{empty}
use Rattle.cell_raster.proofs.grid.empty_row.Given as goal

abbrev pub invariant-loop-column : goal.invariant-loop-column
invariant-loop-column l = l.cells.items ≡ map (λ column. empty) (range_with_len 0 l._column)
