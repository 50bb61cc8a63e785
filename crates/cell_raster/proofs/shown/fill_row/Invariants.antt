use Rattle.std.proofs.Common.{◌≡◌}
use Rattle.cell_raster.specs.Painted.{row_filled}
use Rattle.cell_raster.proofs.shown.fill_row.Given as goal

abbrev pub invariant-loop-column : goal.invariant-loop-column
invariant-loop-column l = l.cells ≡ row_filled l.color l.from l.column l.fn.cells
