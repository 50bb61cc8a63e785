use Rattle.std.proofs.Common.{List, [], ◌∷◌, ◌++◌, ◌≡◌, ◌==◌, ◌^◌, ◌<◌, ℕ, true, false, arith, length, map, take, All, if◌then◌else◌, ap, ap₂, subst, sym, refl, ◌∙◌}
use Rattle.std.proofs.lemmas.List.{map-append, length-map}
use Rattle.std.proofs.lemmas.List.Elements.{All-head, All-tail}
use Rattle.fx_geom.specs.declared.shapes.Size.{Size}
use Rattle.fx_geom.specs.Len.{stopped}
use Rattle.wrap_table.specs.Stretches.{spaced_extent, starts_of}
use Rattle.wrap_table.specs.Runs.{cut_after, is_full, rows_of}
use Rattle.wrap_table.specs.Places.{Run, run_of, places_from, boxes_of, table_row, KeepsToColumns}
use Rattle.wrap_table.proofs.CutLemmas.{flat_map-cut_of}
use Rattle.wrap_table.proofs.ExtentLemmas.{sum-take}
use Rattle.wrap_table.proofs.WrapLemmas.{heights}
use Rattle.wrap_table.proofs.ApartLemmas.{FitIn, AllFit, AreInOrder, run_in, all_in_order, all_pairs}
use Rattle.wrap_table.proofs.laws.table_is_apart.Goals as goal

-- the columns of a row
abbrev columns_of : List ℕ → List Size → List ℕ
columns_of widths row = take (length row) widths

-- rows of children, by their heights
rows-heights : (columns : ℕ) (row left : List Size) → cut_after (is_full columns) (heights row) (heights left) ≡ map heights (cut_after (is_full columns) row left)
rows-heights columns row [] = refl
rows-heights columns row (c ∷ left) =
    ap (λ n. if n == columns then heights row ∷ cut_after (is_full columns) (c.h ∷ []) (heights left) else cut_after (is_full columns) (heights row ++ c.h ∷ []) (heights left))
    (length-map row (λ child. child.h))
    ∙ elim (length row == columns)
    as (λ b. (if b then heights row ∷ cut_after (is_full columns) (c.h ∷ []) (heights left) else cut_after (is_full columns) (heights row ++ c.h ∷ []) (heights left))
    ≡ map heights (if b then row ∷ cut_after (is_full columns) (c ∷ []) left else cut_after (is_full columns) (row ++ c ∷ []) left)) [
      | true ↦ ap (λ rows. heights row ∷ rows) (rows-heights columns (c ∷ []) left)
      | false ↦ ap (λ r. cut_after (is_full columns) r (heights left)) (sym (map-append (λ child. child.h) row (c ∷ []))) ∙ rows-heights columns (row ++ c ∷ []) left
    ]

rows_of-heights : (columns : ℕ) (children : List Size) → rows_of columns (heights children) ≡ map heights (rows_of columns children)
rows_of-heights columns [] = refl
rows_of-heights columns (c ∷ left) = rows-heights columns (c ∷ []) left

table_rows-heights : (widths : List ℕ) (rows : List (List Size)) → map (table_row widths) (map heights rows) ≡ map (run_in 0 (columns_of widths)) rows
table_rows-heights widths [] = refl
table_rows-heights widths (row ∷ rows) =
    ap₂ (λ r rs. r ∷ rs) (ap (λ n. run_of (starts_of 0 (take n widths)) (heights row)) (length-map row (λ child. child.h))) (table_rows-heights widths rows)

-- children that keep to their columns fit in them
fit_in : (widths : List ℕ) (row : List Size) → KeepsToColumns widths row → FitIn (columns_of widths row) row
fit_in widths [] keep = tt
fit_in [] (child ∷ row) keep = keep
fit_in (width ∷ widths) (child ∷ row) keep = (keep.0, fit_in widths row keep.1)

all_fit : (widths : List ℕ) (rows : List (List Size)) → spaced_extent 0 widths < 2 ^ 40 → All (KeepsToColumns widths) rows → AllFit 0 (columns_of widths) rows
all_fit widths [] narrow keep = tt
all_fit widths (row ∷ rows) narrow keep = (
  fit_in widths row (All-head (KeepsToColumns widths) row rows keep),
  let fewer = sum-take (length row) widths in omega (arith, fewer),
  all_fit widths rows narrow (All-tail (KeepsToColumns widths) row rows keep),
)

pub returns : goal.returns
returns c widths children wide high keep =
    let rows = rows_of (length widths) children in
    let same : map (table_row widths) (rows_of (length widths) (heights children)) ≡ map (run_in 0 (columns_of widths)) rows =
    ap (map (table_row widths)) (rows_of-heights (length widths) children) ∙ table_rows-heights widths rows in
    let P : List Run → Type 0 = λ runs. stopped (spaced_extent 0 (map (λ run. run.height) runs)) < 2 ^ 40 in
    let low = subst P same high in
    let Q : List Size → Type 0 = λ cs. AreInOrder (boxes_of (places_from 0 0 (map (run_in 0 (columns_of widths)) rows)) cs) in
    let ordered = subst Q (flat_map-cut_of (is_full (length widths)) children) (all_in_order 0 0 (columns_of widths) 0 rows (all_fit widths rows (omega arith) keep) (omega (arith, low))) in
    let R : List Run → Type 0 = λ runs. AreInOrder (boxes_of (places_from 0 0 runs) children) in
    all_pairs _ (subst R (sym same) ordered)
