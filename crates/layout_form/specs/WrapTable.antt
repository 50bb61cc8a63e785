-- Wrap and Table.
use Rattle.std.specs.Prelude.{ℕ, suc, ℤ, ◌%◌, List, [], ◌∷◌, map, length, slice_index_or}
use Rattle.fx_geom.specs.declared.boxes.Bounds.{Bounds}
use Rattle.fx_geom.specs.declared.lengths.Len.TheVariants.{Finite, Unbounded}
use Rattle.fx_geom.specs.declared.shapes.Size.{Size}
use Rattle.fx_geom.specs.Bounds.{bounds_of, loose, constrain}
use Rattle.flex_layout.specs.Stack.{extent_from}
use Rattle.wrap_table.specs.Places.{wrap_places_of, wrap_size_of, table_places_of, table_size_of}
use Rattle.plain_tree.specs.Laid.{Laid}
use Rattle.layout_form.specs.Object.{Object, Done, sized, sizes_in, placed_at}

abbrev pub heights_of : List Size → List ℕ
heights_of sizes = map (λ s. s.h) sizes

-- ---- Wrap

-- what comes of the laid children: they stand in runs no wider than the greatest width
abbrev pub wrap_done : ℕ → ℕ → Bounds → List Laid → Done
wrap_done gap run_gap b ls =
    sized (constrain b (wrap_size_of (sizes_in ls) b.max_w gap run_gap)) (placed_at (wrap_places_of (sizes_in ls) b.max_w gap run_gap) ls)

-- each child gets width 0 to the maximum, and any height
abbrev pub wrap_rule : ℕ → ℕ → Bounds → List Object → Done
wrap_rule gap run_gap b cs = wrap_done gap run_gap b (map (λ c. c.in_bounds (loose b.max_w Unbounded)) cs)

-- ---- Table

-- the widths of the columns: each is clamped to a length; without any there is one column of width 0
abbrev pub columns_of : List ℤ → List ℕ
columns_of [] = 0 ∷ []
columns_of (w ∷ ws) = map extent_from (w ∷ ws)

-- the width of the column in which child i stands
abbrev pub column_at : List ℕ → ℕ → ℕ
column_at columns i = slice_index_or columns (i % length columns) 0

-- a child of a column has the column's width, and any height
abbrev pub cell_bounds : ℕ → Bounds
cell_bounds width = bounds_of width (Finite width) 0 Unbounded

-- the children in their columns, the first of them being child i
abbrev pub cells_from : List ℕ → ℕ → List Object → List Laid
cells_from columns i [] = []
cells_from columns i (c ∷ cs) = c.in_bounds (cell_bounds (column_at columns i)) ∷ cells_from columns (suc i) cs

-- what comes of the laid children: they stand row by row
abbrev pub table_done : List ℕ → Bounds → List Laid → Done
table_done columns b ls =
    sized (constrain b (table_size_of columns (heights_of (sizes_in ls)))) (placed_at (table_places_of columns (heights_of (sizes_in ls))) ls)

abbrev pub table_rule : List ℤ → Bounds → List Object → Done
table_rule widths b cs = table_done (columns_of widths) b (cells_from (columns_of widths) 0 cs)
