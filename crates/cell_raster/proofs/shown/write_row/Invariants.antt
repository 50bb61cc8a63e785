use Rattle.std.proofs.Common.{◌≡◌, true}
use Rattle.unicode_segmentation.specs.Grapheme.{graphemes}
use Rattle.unicode_segmentation.specs.Iter.{graphemes_left}
use Rattle.cell_raster.specs.Painted.{row_written}
use Rattle.cell_raster.proofs.shown.write_row.Given as goal

abbrev pub invariant-loop-cluster : goal.invariant-loop-cluster
invariant-loop-cluster l =
    row_written l.color (graphemes_left l.cluster-iterator) l.pen.skip l.pen.column l.to l.cells
    ≡ row_written l.color (graphemes true l.text) l.skip l.from l.to l.fn.cells
