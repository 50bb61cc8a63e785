-- Clusters that are written on a row, one after another.
use Rattle.std.proofs.Common.{◌≡◌, ℕ, ◌+◌, ◌-◌, ◌<◌, ◌≤◌, min, arith, Bool, true, false, List, [], ◌∷◌, Some, if◌then◌else◌, inl, inr, refl, sym, ap, ◌∙◌}
use Rattle.std.proofs.lemmas.Bool.{cases_lt}
use Rattle.std.proofs.lemmas.Bool.Decides.{nat_tests}
use Rattle.std.specs.Prelude.{nat_lt}
use Rattle.text_cells.specs.Cluster.{cells_of}
use Rattle.cell_raster.specs.declared.cell.Cell.{Cell}
use Rattle.cell_raster.specs.declared.cell.Glyph.TheVariants.{Part}
use Rattle.cell_raster.specs.Painted.{row_written}
use Rattle.cell_raster.specs.Shown.{part_at, inked}
use Rattle.cell_raster.specs.Stretch.{lies_in, within, changed}
use Rattle.cell_raster.proofs.Stretches.{within_yes, within_early, within_late, changed_same, changed_kept, changed_twice, empty_stretch}

part_passed : (cluster : List ℕ) (rest : List (List ℕ)) (n : ℕ) → cells_of cluster ≤ n → part_at (cluster ∷ rest) n ≡ part_at rest (n - cells_of cluster)
part_passed cluster rest n past =
    let test : nat_lt n (cells_of cluster) ≡ false = grind (arith, nat_tests) in
    ap (λ t. if t then Some (Part cluster n) else part_at rest (n - cells_of cluster)) test

part_met : (cluster : List ℕ) (rest : List (List ℕ)) (n : ℕ) → n < cells_of cluster → part_at (cluster ∷ rest) n ≡ Some (Part cluster n)
part_met cluster rest n met =
    let test : nat_lt n (cells_of cluster) ≡ true = grind (arith, nat_tests) in
    ap (λ t. if t then Some (Part cluster n) else part_at rest (n - cells_of cluster)) test

module _ (color : ℕ) (cluster : List ℕ) (rest : List (List ℕ)) where
  -- a cluster before the first cell that is written
  pub cluster_passed : (skip from to : ℕ) (cells : List Cell) → cells_of cluster ≤ skip
      → row_written color (cluster ∷ rest) skip from to cells ≡ row_written color rest (skip - cells_of cluster) from to cells
  cluster_passed skip from to cells past =
      changed_same (within from to (λ k. inked color (part_at (cluster ∷ rest) (skip + (k - from)))))
      (within from to (λ k. inked color (part_at rest ((skip - cells_of cluster) + (k - from))))) 0 cells
      (λ i x low high. ap (λ p. if lies_in from to i then inked color p x else x)
      (part_passed cluster rest (skip + (i - from)) (omega arith)
      ∙ (let same : skip + (i - from) - cells_of cluster ≡ (skip - cells_of cluster) + (i - from) = omega arith in ap (part_at rest) same)))

  one_place : (skip from to end i : ℕ) (x : Cell) → skip < cells_of cluster → from < to → end ≡ min to (from + (cells_of cluster - skip))
      → within from to (λ k. inked color (part_at (cluster ∷ rest) (skip + (k - from)))) i x
      ≡ within end to (λ k. inked color (part_at rest (0 + (k - end)))) i
      (within from end (λ k. inked color (Some (Part cluster (skip + (k - from))))) i x)
  one_place skip from to end i x met room is =
      let all = λ (k : ℕ). inked color (part_at (cluster ∷ rest) (skip + (k - from))) in
      let later = λ (k : ℕ). inked color (part_at rest (0 + (k - end))) in
      let now = λ (k : ℕ). inked color (Some (Part cluster (skip + (k - from)))) in
      elim (cases_lt i from) [
        | inl early ↦ within_early from to all i x early
            ∙ sym (within_early end to later i (within from end now i x) (omega arith) ∙ within_early from end now i x early)
        | inr low ↦ elim (cases_lt i end) [
          | inl here ↦ within_yes from to all i x low (omega arith)
              ∙ ap (λ p. inked color p x) (part_met cluster rest (skip + (i - from)) (omega arith))
              ∙ sym (within_early end to later i (within from end now i x) here ∙ within_yes from end now i x low here)
          | inr past ↦ elim (cases_lt i to) [
            | inl less ↦ within_yes from to all i x low less
                ∙ ap (λ p. inked color p x) (part_passed cluster rest (skip + (i - from)) (omega arith)
                ∙ (let same : skip + (i - from) - cells_of cluster ≡ 0 + (i - end) = omega arith in ap (part_at rest) same))
                ∙ sym (within_yes end to later i (within from end now i x) past less ∙ ap (later i) (within_late from end now i x past))
            | inr late ↦ within_late from to all i x late
                ∙ sym (within_late end to later i (within from end now i x) late ∙ within_late from end now i x past)
          ]
        ]
      ]

  -- a cluster of which parts are written
  all_written : (skip from to end : ℕ) (cells now : List Cell) → skip < cells_of cluster → from < to → end ≡ min to (from + (cells_of cluster - skip))
      → now ≡ changed (within from end (λ k. inked color (Some (Part cluster (skip + (k - from)))))) 0 cells
      → row_written color (cluster ∷ rest) skip from to cells ≡ row_written color rest 0 end to now
  all_written skip from to end cells now met room is made =
      let later = within end to (λ k. inked color (part_at rest (0 + (k - end)))) in
      let parts = within from end (λ k. inked color (Some (Part cluster (skip + (k - from))))) in
      changed_same (within from to (λ k. inked color (part_at (cluster ∷ rest) (skip + (k - from))))) (λ k x. later k (parts k x)) 0 cells
      (λ i x low high. one_place skip from to end i x met room is)
      ∙ sym (changed_twice parts later 0 cells)
      ∙ sym (ap (changed later 0) made)

  pub cluster_written : (skip from to : ℕ) (cells now : List Cell) (part end taken : ℕ)
      → now ≡ changed (within from end (λ k. inked color (Some (Part cluster (part + (k - from)))))) 0 cells
      → taken ≡ cells_of cluster → skip < taken → from < to → part ≡ skip → end ≡ min to (from + (taken - part))
      → row_written color (cluster ∷ rest) skip from to cells ≡ row_written color rest 0 end to now
  cluster_written skip from to cells now part end taken made width met room same is =
      all_written skip from to end cells now (omega arith) room (omega arith)
      (made ∙ ap (λ p. changed (within from end (λ k. inked color (Some (Part cluster (p + (k - from)))))) 0 cells) same)

-- past the end of the stretch, and past the last cluster
pub past_stretch : (color : ℕ) (clusters : List (List ℕ)) (skip from to : ℕ) (cells : List Cell) → to ≤ from → row_written color clusters skip from to cells ≡ cells
past_stretch color clusters skip from to cells past = empty_stretch from to (λ k. inked color (part_at clusters (skip + (k - from)))) 0 cells past

either_same : {A : Type 0} (t : Bool) (x : A) → (if t then x else x) ≡ x
either_same true x = refl
either_same false x = refl

pub past_clusters : (color skip from to : ℕ) (cells : List Cell) → row_written color [] skip from to cells ≡ cells
past_clusters color skip from to cells =
    changed_kept (within from to (λ k. inked color (part_at [] (skip + (k - from))))) 0 cells (λ i x low high. either_same (lies_in from to i) x)
