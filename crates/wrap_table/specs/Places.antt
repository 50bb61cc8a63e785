-- Where the children of a Wrap and of a Table stand, and how large they are together.
use Rattle.std.specs.Prelude.{ℕ, ◌+◌, ◌≤◌, ◌≤ℤ◌, ◌+ℤ◌, ◌⊎◌, pos, List, [], ◌∷◌, ◌++◌, length, map, take}
use Rattle.fx_geom.specs.declared.lengths.Len.{Len}
use Rattle.fx_geom.specs.declared.shapes.Offset.{Offset}
use Rattle.fx_geom.specs.declared.shapes.Size.{Size}
use Rattle.fx_geom.specs.declared.shapes.Rect.{Rect}
use Rattle.fx_geom.specs.Len.{stopped}
use Rattle.wrap_table.specs.Stretches.{greatest_of, spaced_extent, starts_of}
use Rattle.wrap_table.specs.Runs.{width_of, runs_of, rows_of}

-- a run of children: where each begins, and how high the run is, which is as high as its highest child
pub record Run : Type 0 where
  pub lefts : List ℕ
  pub height : ℕ

abbrev pub run_of : List ℕ → List ℕ → Run
run_of lefts heights = record { lefts = lefts; height = greatest_of heights }

abbrev pub offset_at : ℕ → ℕ → Offset
offset_at top left = record { x = pos left; y = pos (stopped top) }

-- the places of the children of runs below one another, the first run at this height, with a gap between two of them:
-- each child stands at the top of its run
abbrev pub places_from : ℕ → ℕ → List Run → List Offset
places_from gap top [] = []
places_from gap top (run ∷ runs) = map (offset_at top) run.lefts ++ places_from gap (top + run.height + gap) runs

abbrev pub places_of : ℕ → List Run → List Offset
places_of gap runs = places_from gap 0 runs

-- how high runs below one another are
abbrev pub height_of : ℕ → List Run → ℕ
height_of gap runs = stopped (spaced_extent gap (map (λ run. run.height) runs))

abbrev pub size_with : ℕ → ℕ → Size
size_with width height = record { w = width; h = height }

-- ---- Wrap

-- a run of a Wrap: its children stand side by side, with a gap between two of them
abbrev pub wrap_run : ℕ → List Size → Run
wrap_run gap children = run_of (starts_of gap (map (λ child. child.w) children)) (map (λ child. child.h) children)

abbrev pub wrap_runs : List Size → Len → ℕ → List Run
wrap_runs children limit gap = map (wrap_run gap) (runs_of limit gap children)

abbrev pub wrap_places_of : List Size → Len → ℕ → ℕ → List Offset
wrap_places_of children limit gap run_gap = places_of run_gap (wrap_runs children limit gap)

-- as wide as the widest run
abbrev pub wrap_size_of : List Size → Len → ℕ → ℕ → Size
wrap_size_of children limit gap run_gap =
    size_with (greatest_of (map (width_of gap) (runs_of limit gap children))) (height_of run_gap (wrap_runs children limit gap))

-- ---- Table

-- a row of a Table with columns of these widths: its children stand where the columns begin
abbrev pub table_row : List ℕ → List ℕ → Run
table_row widths heights = run_of (starts_of 0 (take (length heights) widths)) heights

abbrev pub table_rows : List ℕ → List ℕ → List Run
table_rows widths heights = map (table_row widths) (rows_of (length widths) heights)

abbrev pub table_places_of : List ℕ → List ℕ → List Offset
table_places_of widths heights = places_of 0 (table_rows widths heights)

-- as wide as all columns, whether there are children in them or not
abbrev pub table_size_of : List ℕ → List ℕ → Size
table_size_of widths heights = size_with (stopped (spaced_extent 0 widths)) (height_of 0 (table_rows widths heights))

-- ---- laws

-- a child of this size at its place
abbrev pub box_at : Offset → Size → Rect
box_at place size = record { at = place; size = size }

abbrev pub boxes_of : List Offset → List Size → List Rect
boxes_of [] sizes = []
boxes_of (place ∷ places) [] = []
boxes_of (place ∷ places) (size ∷ sizes) = box_at place size ∷ boxes_of places sizes

-- the first of two rectangles ends left of the second, or above it: they have no point in common but at their edges
abbrev pub IsBefore : Rect → Rect → Type 0
IsBefore a b = ((a.at.x +ℤ pos a.size.w) ≤ℤ b.at.x) ⊎ ((a.at.y +ℤ pos a.size.h) ≤ℤ b.at.y)

-- each child of a row is at most as wide as its column
abbrev pub KeepsToColumns : List ℕ → List Size → Type 0
KeepsToColumns widths [] = Unit {0}
KeepsToColumns [] (child ∷ row) = ⊥
KeepsToColumns (width ∷ widths) (child ∷ row) = (child.w ≤ width) × KeepsToColumns widths row
