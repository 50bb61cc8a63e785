use Rattle.std.proofs.Common.{◌≡◌, None, drop}
use Rattle.cell_raster.specs.Damage.{rows_hull}
use Rattle.cell_raster.specs.View.{rows_in}
use Rattle.cell_raster.proofs.damage.rows_hull.Given as goal

abbrev pub invariant-loop-row : goal.invariant-loop-row
invariant-loop-row l =
    rows_hull (rows_in (drop l.row l.old)) (rows_in (drop l.row l.new)) l.row l.found ≡ rows_hull (rows_in l.old) (rows_in l.new) 0 None
