use Rattle.std.proofs.Common.{◌≡◌, ◌++◌, drop, string_bytes}
use Rattle.cell_raster.specs.Printed.{row_text}
use Rattle.cell_raster.proofs.printing.row_text.Given as goal

abbrev pub invariant-loop-cell : goal.invariant-loop-cell
invariant-loop-cell l = string_bytes l.text ++ row_text (drop l.cell-index l.cells) ≡ row_text l.cells
