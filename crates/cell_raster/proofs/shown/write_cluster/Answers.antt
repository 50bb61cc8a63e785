use Rattle.std.proofs.Common.{arith}
use Rattle.cell_raster.proofs.Written.{cluster_written}
use Rattle.cell_raster.proofs.shown.write_cluster.Goals as goal

pub returns : goal.returns
returns c =
    let pen = c.args.pen in
    λ rest. cluster_written c.args.color c.args.cluster.now rest pen.skip pen.column c.args.to c.args.cells.now c.write_parts.new.cells
    _ c.min-end.result c.cluster_cells-taken.result c.in_ok-write_parts.ensures c.cluster_cells-taken.ensures.value (omega arith) c.requires.room
    (omega arith) (omega arith)
