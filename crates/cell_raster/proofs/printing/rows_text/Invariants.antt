use Rattle.std.proofs.Common.{◌≡◌, ◌++◌, drop}
use Rattle.cell_raster.specs.Printed.{rows_text}
use Rattle.cell_raster.specs.View.{rows_in}
use Rattle.cell_raster.proofs.printing.rows_text.Given as goal

abbrev pub invariant-loop-cells : goal.invariant-loop-cells
invariant-loop-cells l = l.text.items ++ rows_text (rows_in (drop l.cells-index l.rows)) ≡ rows_text (rows_in l.rows)
