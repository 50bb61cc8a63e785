-- The pass over the children of a Wrap and of a Table: what it holds of the present run, and what the next child changes.
use Rattle.std.specs.Prelude.{ℕ, ◌+◌, ◌^◌, ◌≤◌, ◌==◌, ◌&&◌, Bool, true, false, max, nat_lt, if◌then◌else◌, pos, List, [], ◌∷◌, length, slice_index}
use Rattle.fx_geom.specs.declared.shapes.Offset.{Offset}
use Rattle.fx_geom.specs.declared.shapes.Size.{Size}
use Rattle.fx_geom.specs.Len.{limit_of, length_sum}
use Rattle.wrap_table.specs.declared.wrap.WrapRule.{WrapRule}
use Rattle.wrap_table.specs.declared.wrap.WrapPass.{WrapPass}
use Rattle.wrap_table.specs.declared.table.TablePass.{TablePass}
use Rattle.wrap_table.specs.Places.{size_with}

-- a place is a length
abbrev pub IsInRange : ℕ → Type 0
IsInRange n = n ≤ 2 ^ 40

abbrev pub place_at : ℕ → ℕ → Offset
place_at left top = record { x = pos left; y = pos top }

-- ---- Wrap

abbrev pub wrap_start : WrapPass
wrap_start = record { some = false; top = 0; width = 0; height = 0; widest = 0 }

-- where the next child begins in the present run
abbrev pub next_left : ℕ → WrapPass → ℕ
next_left gap p = if p.some then length_sum p.width gap else 0

-- the present run ends before a child of this width
abbrev pub run_ends : WrapRule → WrapPass → ℕ → Bool
run_ends rule p width = p.some && nat_lt (limit_of rule.limit) (length_sum (next_left rule.gap p) width)

-- the next run begins
abbrev pub run_begun : ℕ → WrapPass → WrapPass
run_begun run_gap p =
    record { some = false; top = length_sum p.top (length_sum p.height run_gap); width = 0; height = 0; widest = p.widest }

-- the run that the next child stands in
abbrev pub run_ready : WrapRule → WrapPass → ℕ → WrapPass
run_ready rule p width = if run_ends rule p width then run_begun rule.run_gap p else p

-- a child that begins here was put into the run
abbrev pub wrap_put : ℕ → Size → WrapPass → WrapPass
wrap_put left size p =
    let right = length_sum left size.w in
    record { some = true; top = p.top; width = right; height = max p.height size.h; widest = max p.widest right }

abbrev pub wrap_next : WrapRule → WrapPass → Size → WrapPass
wrap_next rule p size = let q = run_ready rule p size.w in wrap_put (next_left rule.gap q) size q

abbrev pub wrap_place : WrapRule → WrapPass → Size → Offset
wrap_place rule p size = let q = run_ready rule p size.w in place_at (next_left rule.gap q) q.top

abbrev pub wrap_size_at : WrapPass → Size
wrap_size_at p = size_with p.widest (length_sum p.top p.height)

-- what the children that are left come to: their places, and the pass after the last of them
abbrev pub wrap_places_after : WrapRule → WrapPass → List Size → List Offset
wrap_places_after rule p [] = []
wrap_places_after rule p (size ∷ sizes) = wrap_place rule p size ∷ wrap_places_after rule (wrap_next rule p size) sizes

abbrev pub wrap_end : WrapRule → WrapPass → List Size → WrapPass
wrap_end rule p [] = p
wrap_end rule p (size ∷ sizes) = wrap_end rule (wrap_next rule p size) sizes

-- ---- Table

abbrev pub table_start : TablePass
table_start = record { column = 0; left = 0; top = 0; height = 0 }

-- the next child stands in a column, or begins a row; places are lengths
pub record IsMidway (widths : List ℕ) (p : TablePass) : Type 0 where
  pub column : p.column ≤ length widths
  pub left : IsInRange p.left
  pub top : IsInRange p.top

-- the next row begins where the present one has a child in each column
abbrev pub row_begun : TablePass → TablePass
row_begun p = record { column = 0; left = 0; top = length_sum p.top p.height; height = 0 }

abbrev pub row_ready : ℕ → TablePass → TablePass
row_ready columns p = if p.column == columns then row_begun p else p

-- a child of this height was put into the next column, of this width
abbrev pub table_put : ℕ → ℕ → TablePass → TablePass
table_put width height p =
    record { column = p.column + 1; left = length_sum p.left width; top = p.top; height = max p.height height }

abbrev pub table_next : List ℕ → TablePass → ℕ → TablePass
table_next widths p height = let q = row_ready (length widths) p in table_put (slice_index widths q.column) height q

abbrev pub table_place : List ℕ → TablePass → Offset
table_place widths p = let q = row_ready (length widths) p in place_at q.left q.top

abbrev pub table_height_at : TablePass → ℕ
table_height_at p = length_sum p.top p.height

-- what the children that are left come to, by their heights: their places, and the pass after the last of them
abbrev pub table_places_after : List ℕ → TablePass → List ℕ → List Offset
table_places_after widths p [] = []
table_places_after widths p (height ∷ heights) =
    table_place widths p ∷ table_places_after widths (table_next widths p height) heights

abbrev pub table_end : List ℕ → TablePass → List ℕ → TablePass
table_end widths p [] = p
table_end widths p (height ∷ heights) = table_end widths (table_next widths p height) heights
