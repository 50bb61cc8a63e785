-- Rows with one more, and what differs past the end of rows.
use Rattle.std.proofs.Common.{◌≡◌, ℕ, ◌≤◌, ◌⊎◌, inl, inr, min, arith, List, [], ◌∷◌, ◌++◌, length, drop, Option, refl, ap, ◌∙◌}
use Rattle.std.proofs.lemmas.Bool.{cases_lt}
use Rattle.std.proofs.lemmas.List.{drop_all, map-append}
use Rattle.std.specs.Prelude.{Vec}
use Rattle.std.specs.declared.alloc.Global.{Global}
use Rattle.cell_raster.specs.declared.cell.Cell.{Cell}
use Rattle.cell_raster.specs.declared.damage.Hull.{Hull}
use Rattle.cell_raster.specs.Damage.{row_hull, rows_hull}
use Rattle.cell_raster.specs.View.{row_in, rows_in}

pub rows_in_more : (vs : List (Vec Cell Global)) (v : Vec Cell Global) → rows_in (vs ++ v ∷ []) ≡ rows_in vs ++ v.items ∷ []
rows_in_more vs v = map-append row_in vs (v ∷ [])

none_after : (xs : List (List Cell)) (row : ℕ) (hull : Option Hull) → rows_hull xs [] row hull ≡ hull
none_after [] row hull = refl
none_after (x ∷ xs) row hull = refl

either_ends : (m n k : ℕ) → min m n ≤ k → (m ≤ k) ⊎ (n ≤ k)
either_ends m n k h = elim (cases_lt k m) [ inl less ↦ inr (omega arith) | inr past ↦ inl past ]

nothing_after : (xs : List Cell) (column row : ℕ) (hull : Option Hull) → row_hull xs [] column row hull ≡ hull
nothing_after [] column row hull = refl
nothing_after (x ∷ xs) column row hull = refl

pub past_cells : (xs ys : List Cell) (k row : ℕ) (hull : Option Hull) → min (length xs) (length ys) ≤ k
    → row_hull (drop k xs) (drop k ys) k row hull ≡ hull
past_cells xs ys k row hull h = elim (either_ends (length xs) (length ys) k h) [
  | inl past ↦ ap (λ zs. row_hull zs (drop k ys) k row hull) (drop_all k xs past)
  | inr past ↦ ap (λ zs. row_hull (drop k xs) zs k row hull) (drop_all k ys past) ∙ nothing_after (drop k xs) k row hull
]

pub past_rows : (xs ys : List (Vec Cell Global)) (k : ℕ) (hull : Option Hull) → min (length xs) (length ys) ≤ k
    → rows_hull (rows_in (drop k xs)) (rows_in (drop k ys)) k hull ≡ hull
past_rows xs ys k hull h = elim (either_ends (length xs) (length ys) k h) [
  | inl past ↦ ap (λ zs. rows_hull (rows_in zs) (rows_in (drop k ys)) k hull) (drop_all k xs past)
  | inr past ↦ ap (λ zs. rows_hull (rows_in (drop k xs)) (rows_in zs) k hull) (drop_all k ys past) ∙ none_after (rows_in (drop k xs)) k hull
]
