-- The line `cells`.
use Rattle.std.specs.Prelude.{ℕ, ◌*◌, nat_le, length, Option, Some, None, option_map, List, ◌++◌, codes, if◌then◌else◌}
use Rattle.std.specs.Fmt.{decimal}
use Rattle.cell_raster.specs.Damage.{damage_of}
use Rattle.cell_raster.specs.CellGrid.{CellGrid, max_cells, columns_of, rows_of, grid_of}
use Rattle.cell_raster.specs.Printed.{rows_text}
use Rattle.cell_raster.specs.declared.damage.Damage.{Damage}
use Rattle.fx_geom.specs.declared.shapes.Size.{Size}
use Rattle.layer_tree.specs.declared.layers.Layer.{Layer}
use Rattle.session_form.specs.FrameText.{layers_of}
use Rattle.session_form.specs.Program.{scale_of}
use Rattle.session_form.specs.Seeing.{view_in}
use Rattle.session_form.specs.State.{SessionState}
use Rattle.live_session.specs.RunState.{RunState, Came, went, refused}
use Rattle.live_session.specs.declared.refusal.LineRefusal.TheVariants as refusal

-- how many columns, rows and damaged cells there are
abbrev pub head_text : CellGrid → Damage → List ℕ
head_text g damage =
    codes "cells " ++ (decimal g.columns ++ (codes " " ++ (decimal (length g.rows) ++ (codes " " ++ (decimal (damage.columns * damage.rows) ++ codes "\n")))))

-- the same, the rows, `end`
abbrev pub cells_text : CellGrid → Damage → List ℕ
cells_text g damage = head_text g damage ++ (rows_text g.rows ++ codes "end\n")

-- the grid is drawn, and is the one of which the next damage counts
abbrev pub drawn : CellGrid → RunState → Came
drawn g r = went (record r { grid = g }) (cells_text g (damage_of r.grid g))

-- more cells than a grid may have are refused
abbrev pub drawn_in : Layer → Size → Size → RunState → Came
drawn_in root view cell r =
    if nat_le (columns_of view cell * rows_of view cell) max_cells then drawn (grid_of root view cell) r
    else refused refusal.TooManyCells

-- before the first frame there are no layers, and no size
abbrev pub cells_by : Option Layer → Option Size → Size → RunState → Came
cells_by None view cell r = refused refusal.NoFrame
cells_by (Some root) None cell r = refused refusal.NoFrame
cells_by (Some root) (Some view) cell r = drawn_in root view cell r

-- the size of a text cell
abbrev pub cell_of : SessionState → Size
cell_of s = (scale_of s.program).cell

abbrev pub cells_entry : RunState → Came
cells_entry r = cells_by (option_map (layers_of (cell_of r.session)) r.session.shown) (view_in r.session.shown) (cell_of r.session) r
