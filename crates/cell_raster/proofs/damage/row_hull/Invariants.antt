use Rattle.std.proofs.Common.{◌≡◌, drop}
use Rattle.cell_raster.specs.Damage.{row_hull}
use Rattle.cell_raster.proofs.damage.row_hull.Given as goal

abbrev pub invariant-loop-column : goal.invariant-loop-column
invariant-loop-column l =
    row_hull (drop l.column l.old) (drop l.column l.new) l.column l.row l.found ≡ row_hull l.old l.new 0 l.row l.fn.hull
