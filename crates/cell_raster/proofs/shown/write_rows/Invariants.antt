use Rattle.std.proofs.Common.{◌≡◌, true}
use Rattle.unicode_segmentation.specs.Grapheme.{graphemes}
use Rattle.cell_raster.specs.Painted.{row_written}
use Rattle.cell_raster.specs.Stretch.{within, changed}
use Rattle.cell_raster.specs.View.{rows_in}
use Rattle.cell_raster.proofs.shown.write_rows.Given as goal

abbrev pub invariant-loop-row : goal.invariant-loop-row
invariant-loop-row l =
    rows_in l.rows ≡ changed (within l.block.top l.row (λ row. row_written l.color (graphemes true l.text) l.skip l.block.left l.block.right)) 0 (rows_in l.fn.rows)
