-- What small frames show in cells, worked by hand.
use Rattle.std.specs.Prelude.{◌≡◌, ℕ, ℤ, pos, negsuc, List, [], ◌∷◌, codes, encode_utf8_all}
use Rattle.fx_geom.specs.declared.shapes.Offset.{Offset}
use Rattle.fx_geom.specs.declared.shapes.Rect.{Rect}
use Rattle.fx_geom.specs.declared.shapes.Size.{Size}
use Rattle.fx_geom.specs.Offset.{origin}
use Rattle.draw_records.specs.declared.record.Record.TheVariants.{Fill, Run}
use Rattle.layer_tree.specs.declared.kind.LayerKind.TheVariants as kind
use Rattle.layer_tree.specs.LayerItem.{LayerItem, drawn, nested, items_of}
use Rattle.cell_raster.specs.declared.cell.Cell.{Cell}
use Rattle.cell_raster.specs.declared.cell.Glyph.TheVariants.{Part}
use Rattle.cell_raster.specs.declared.damage.Damage.{Damage}
use Rattle.cell_raster.specs.Cell.{empty}
use Rattle.cell_raster.specs.Damage.{damage_of, no_damage}
use Rattle.cell_raster.specs.CellGrid.{CellGrid, no_grid, grid_of}
use Rattle.cell_raster.specs.Printed.{rows_text}
use Rattle.cell_raster.specs.Shown.{filled}

abbrev pub size : ℕ → ℕ → Size
size w h = record { w = w; h = h }

abbrev pub point : ℤ → ℤ → Offset
point x y = record { x = x; y = y }

abbrev pub rect : ℤ → ℤ → ℕ → ℕ → Rect
rect x y w h = record { at = point x y; size = size w h }

abbrev pub fill : ℤ → ℤ → ℕ → ℕ → ℕ → LayerItem
fill x y w h color = drawn (Fill (rect x y w h) color)

abbrev pub run : ℤ → ℤ → List ℕ → LayerItem
run x y text = drawn (Run (point x y) 1 text)

-- what a frame shows in three columns and two rows, whose middles stand at 1, 3 and 5 across, and at 1 and 3 down
abbrev pub shows : List LayerItem → CellGrid
shows items = grid_of (record { kind = kind.Offset origin; items = items }) (size 6 4) (size 2 2)

abbrev pub grid : List (List Cell) → CellGrid
grid rows = record { columns = 3; rows = rows }

abbrev pub none : List Cell
none = empty ∷ empty ∷ empty ∷ []

abbrev pub second : List Cell
second = empty ∷ filled 7 ∷ empty ∷ []

abbrev pub damage : ℕ → ℕ → ℕ → ℕ → Damage
damage left top columns rows = record { left = left; top = top; columns = columns; rows = rows }

abbrev pub written : List ℕ → ℕ → Cell
written cluster part = record { back = 0; ink = 1; glyph = Part cluster part }

pub record Works : Type 0 where
  -- a rectangle covers the cells whose middles it holds: the left and the top edge are in it, the other two aren't
  pub covered : shows (fill (pos 1) (pos 1) 3 1 7 ∷ []) ≡ grid ((filled 7 ∷ filled 7 ∷ empty ∷ []) ∷ none ∷ [])
  pub on_edges : shows (fill (pos 3) (pos 1) 2 2 7 ∷ []) ≡ grid (second ∷ none ∷ [])
  pub between_middles : shows (fill (pos 2) (pos 0) 1 4 7 ∷ []) ≡ grid (none ∷ none ∷ [])
  -- what is drawn later covers what was drawn before
  pub later : shows (fill (pos 0) (pos 0) 6 2 5 ∷ fill (pos 2) (pos 0) 2 2 7 ∷ []) ≡ grid ((filled 5 ∷ filled 7 ∷ filled 5 ∷ []) ∷ none ∷ [])
  -- a layer moves what stands in it; an Opacity draws as if opaque
  pub moved : shows (nested (kind.Opacity (point (pos 2) (pos 0)) 128) (items_of (fill (pos 0) (pos 0) 2 2 7 ∷ [])) ∷ []) ≡ grid (second ∷ none ∷ [])
  -- a clip cuts what stands in it, moves nothing, and cuts the clips in it too
  pub clipped : shows (nested (kind.Clip (rect (pos 2) (pos 0) 2 2)) (items_of (fill (pos 0) (pos 0) 6 4 7 ∷ [])) ∷ []) ≡ grid (second ∷ none ∷ [])
  pub clipped_twice : shows (nested (kind.Clip (rect (pos 0) (pos 0) 4 2))
      (items_of (nested (kind.Clip (rect (pos 2) (pos 0) 4 4)) (items_of (fill (pos 0) (pos 0) 6 4 7 ∷ [])) ∷ [])) ∷ []) ≡ grid (second ∷ none ∷ [])
  -- a run writes its clusters side by side from its place on, each in as many cells as it takes, and leaves the color
  -- behind them; what stands left of the view is left away
  pub lettered : shows (run (pos 2) (pos 0) (codes "ab") ∷ []) ≡ grid ((empty ∷ written (codes "a") 0 ∷ written (codes "b") 0 ∷ []) ∷ none ∷ [])
  pub over_a_fill : shows (fill (pos 0) (pos 0) 2 2 7 ∷ run (pos 0) (pos 0) (codes "a") ∷ []) ≡ grid ((record (written (codes "a") 0) { back = 7 } ∷ empty ∷ empty ∷ []) ∷ none ∷ [])
  pub wide : shows (run (pos 0) (pos 1) (encode_utf8_all (0x4F60 ∷ 99 ∷ [])) ∷ []) ≡ grid ((written (encode_utf8_all (0x4F60 ∷ [])) 0 ∷ written (encode_utf8_all (0x4F60 ∷ [])) 1 ∷ written (codes "c") 0 ∷ []) ∷ none ∷ [])
  pub half : shows (nested (kind.Clip (rect (pos 2) (pos 0) 2 2)) (items_of (run (pos 0) (pos 0) (encode_utf8_all (0x4F60 ∷ [])) ∷ [])) ∷ []) ≡ grid ((empty ∷ written (encode_utf8_all (0x4F60 ∷ [])) 1 ∷ empty ∷ []) ∷ none ∷ [])
  pub from_the_left : shows (run (negsuc 1) (pos 2) (codes "abc") ∷ []) ≡ grid (none ∷ (written (codes "b") 0 ∷ written (codes "c") 0 ∷ empty ∷ []) ∷ [])
  -- the damage holds each cell that differs, and no row or column more; the first frame damages all of its grid
  pub at_first : damage_of no_grid (grid (none ∷ second ∷ [])) ≡ damage 0 0 3 2
  pub unchanged : damage_of (grid (none ∷ second ∷ [])) (grid (none ∷ second ∷ [])) ≡ no_damage
  pub one_cell : damage_of (grid (none ∷ none ∷ [])) (grid (none ∷ second ∷ [])) ≡ damage 1 1 1 1
  pub two_cells : damage_of (grid ((filled 7 ∷ empty ∷ empty ∷ []) ∷ none ∷ [])) (grid (none ∷ second ∷ [])) ≡ damage 0 0 2 2
  -- an empty cell is a space, and a cluster of two cells stands once
  pub printed : rows_text ((written (codes "a") 0 ∷ written (codes "W") 0 ∷ written (codes "W") 1 ∷ []) ∷ none ∷ []) ≡ codes "\"aW\"\n\"   \"\n"
