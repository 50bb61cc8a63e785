use Rattle.std.proofs.Common.{arith, sym, ◌∙◌}
use Rattle.cell_raster.proofs.Cells.{past_cells}
use Rattle.cell_raster.proofs.damage.row_hull.Goals as goal

pub returns : goal.returns
returns c =
    sym (past_cells c.args.old.now c.args.new.now c.loop-column.column c.args.row c.loop-column.found
    (omega (arith, c.min-column-end.ensures, c.loop-column-test.false)))
    ∙ c.loop-column.invariant
