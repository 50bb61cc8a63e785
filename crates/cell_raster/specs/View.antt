-- The rows of the program as lists.
use Rattle.std.specs.Prelude.{List, map, Vec}
use Rattle.std.specs.declared.alloc.Global.{Global}
use Rattle.cell_raster.specs.declared.cell.Cell.{Cell}

abbrev pub row_in : Vec Cell Global → List Cell
row_in v = v.items

abbrev pub rows_in : List (Vec Cell Global) → List (List Cell)
rows_in vs = map row_in vs
