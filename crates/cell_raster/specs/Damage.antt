-- Which cells of a grid differ from those of the grid before it.
use Rattle.std.specs.Prelude.{ℕ, ◌+◌, ◌-◌, ◌==◌, min, max, Bool, true, false, ◌&&◌, if◌then◌else◌, List, [], ◌∷◌, length, Option, Some, None}
use Rattle.cell_raster.specs.declared.cell.Cell.{Cell}
use Rattle.cell_raster.specs.declared.damage.Damage.{Damage}
use Rattle.cell_raster.specs.declared.damage.Hull.{Hull}
use Rattle.cell_raster.specs.Cell.{differs}
use Rattle.cell_raster.specs.CellGrid.{CellGrid}

-- the least rectangle that holds what another one holds, if there is one, and a cell
abbrev pub grown : Option Hull → ℕ → ℕ → Hull
grown None column row = record { left = column; top = row; right = column + 1; bottom = row + 1 }
grown (Some h) column row =
    record { left = min h.left column; top = min h.top row; right = max h.right (column + 1); bottom = max h.bottom (row + 1) }

abbrev pub grown_where : Bool → Option Hull → ℕ → ℕ → Option Hull
grown_where true hull column row = Some (grown hull column row)
grown_where false hull column row = hull

-- with the cells of a row, from a column on, that differ from those before
abbrev pub row_hull : List Cell → List Cell → ℕ → ℕ → Option Hull → Option Hull
row_hull [] ys column row hull = hull
row_hull (a ∷ xs) [] column row hull = hull
row_hull (a ∷ xs) (b ∷ ys) column row hull = row_hull xs ys (column + 1) row (grown_where (differs a b) hull column row)

-- with those of the rows from a row on
abbrev pub rows_hull : List (List Cell) → List (List Cell) → ℕ → Option Hull → Option Hull
rows_hull [] ys row hull = hull
rows_hull (a ∷ xs) [] row hull = hull
rows_hull (a ∷ xs) (b ∷ ys) row hull = rows_hull xs ys (row + 1) (row_hull a b 0 row hull)

abbrev pub no_damage : Damage
no_damage = record { left = 0; top = 0; columns = 0; rows = 0 }

abbrev pub damage_in : Option Hull → Damage
damage_in None = no_damage
damage_in (Some h) = record { left = h.left; top = h.top; columns = h.right - h.left; rows = h.bottom - h.top }

-- two grids of one size
abbrev pub same_size : CellGrid → CellGrid → Bool
same_size a b = a.columns == b.columns && length a.rows == length b.rows

abbrev pub whole : CellGrid → Damage
whole g = record { left = 0; top = 0; columns = g.columns; rows = length g.rows }

-- the damage from one grid to the next: the least rectangle that holds each cell that differs, all zeros where none does;
-- the whole grid where the size differs
abbrev pub damage_of : CellGrid → CellGrid → Damage
damage_of a b = if same_size a b then damage_in (rows_hull a.rows b.rows 0 None) else whole b
