-- What the laws of this crate say.
use Rattle.std.specs.Prelude.{◌≡◌, ◌≢◌, ℕ, ◌+◌, ◌≤◌, ◌<◌, List, [], ◌∷◌, length}
use Rattle.cell_raster.specs.declared.damage.Damage.{Damage}
use Rattle.cell_raster.specs.declared.cell.Cell.{Cell}
use Rattle.cell_raster.specs.CellGrid.{CellGrid, cell_at}

-- each row has so many cells
abbrev pub AllHave : ℕ → List (List Cell) → Type 0
AllHave columns [] = Unit {0}
AllHave columns (cells ∷ rows) = (length cells ≡ columns) × AllHave columns rows

-- each row of a grid has a cell for each column
abbrev pub IsWhole : CellGrid → Type 0
IsWhole g = AllHave g.columns g.rows

-- a cell lies in a damage
pub record HoldsCell (d : Damage) (column row : ℕ) : Type 0 where
  pub left : d.left ≤ column
  pub right : column < d.left + d.columns
  pub top : d.top ≤ row
  pub bottom : row < d.top + d.rows

-- the cells of two grids differ in a column and a row
abbrev pub DifferAt : CellGrid → CellGrid → ℕ → ℕ → Type 0
DifferAt a b column row = cell_at a column row ≢ cell_at b column row

-- a rectangle holds each cell in which two grids differ
abbrev pub HoldsChanges : CellGrid → CellGrid → Damage → Type 0
HoldsChanges a b d = (column row : ℕ) → DifferAt a b column row → HoldsCell d column row
