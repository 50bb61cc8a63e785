use Rattle.std.proofs.Common.{arith, sym, ◌∙◌}
use Rattle.cell_raster.proofs.Cells.{past_rows}
use Rattle.cell_raster.proofs.damage.rows_hull.Goals as goal

pub returns : goal.returns
returns c =
    sym (past_rows c.args.old.now c.args.new.now c.loop-row.row c.loop-row.found (omega (arith, c.min-row-end.ensures, c.loop-row-test.false)))
    ∙ c.loop-row.invariant
