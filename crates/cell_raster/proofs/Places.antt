-- What stands where in the grid of a frame.
use Rattle.std.proofs.Common.{◌≡◌, ℕ, zero, suc, ◌+◌, ◌<◌, ◌≤◌, inl, inr, arith, add-zero, zero-add, map, Some, None, sym, ap, ◌∙◌}
use Rattle.std.proofs.lemmas.Bool.{cases_lt}
use Rattle.std.proofs.lemmas.List.FromFn.{length-map-range_with_len}
use Rattle.std.proofs.lemmas.Option.{slice_get_past}
use Rattle.std.specs.List.{range_with_len}
use Rattle.std.specs.Prelude.{slice_get}
use Rattle.fx_geom.specs.declared.shapes.Size.{Size}
use Rattle.layer_tree.specs.declared.layers.Layer.{Layer}
use Rattle.cell_raster.specs.Drawing.{frame_drawings}
use Rattle.cell_raster.specs.CellGrid.{columns_of, rows_of, row_cells, grid_of, cell_in, cell_at}
use Rattle.cell_raster.specs.Laws.{AllHave, IsWhole}
use Rattle.cell_raster.specs.Shown.{shown_of, shown_at}

in_range : {X : Type 0} (f : ℕ → X) (a n i : ℕ) → i < n → slice_get (map f (range_with_len a n)) i ≡ Some (f (a + i))
in_range f a zero i less = absurd (omega arith)
in_range f a (suc n) zero less = ap (λ k. Some (f k)) (sym (add-zero a))
in_range f a (suc n) (suc i) less =
    let here : (a + 1) + i ≡ a + suc i = omega arith in in_range f (a + 1) n i (omega arith) ∙ ap (λ k. Some (f k)) here

past_range : {X : Type 0} (f : ℕ → X) (n i : ℕ) → n ≤ i → slice_get (map f (range_with_len 0 n)) i ≡ None
past_range f n i past = slice_get_past (map f (range_with_len 0 n)) i (let long = length-map-range_with_len f 0 n in omega (arith, long))

module _ (root : Layer) (view cell : Size) where
  row_is : (column row : ℕ) → row < rows_of view cell
      → cell_at (grid_of root view cell) column row ≡ slice_get (row_cells cell (frame_drawings root) (columns_of view cell) row) column
  row_is column row within =
      ap (λ cells. cell_in cells column) (in_range (λ r. row_cells cell (frame_drawings root) (columns_of view cell) r) 0 (rows_of view cell) row within)
      ∙ ap (λ r. slice_get (row_cells cell (frame_drawings root) (columns_of view cell) r) column) (zero-add row)

  pub inside : (column row : ℕ) → column < columns_of view cell → row < rows_of view cell
      → cell_at (grid_of root view cell) column row ≡ Some (shown_at cell root column row)
  inside column row across down =
      row_is column row down
      ∙ in_range (λ c. shown_of cell (frame_drawings root) c row) 0 (columns_of view cell) column across
      ∙ ap (λ c. Some (shown_of cell (frame_drawings root) c row)) (zero-add column)

  pub below : (column row : ℕ) → rows_of view cell ≤ row → cell_at (grid_of root view cell) column row ≡ None
  below column row past =
      ap (λ cells. cell_in cells column) (past_range (λ r. row_cells cell (frame_drawings root) (columns_of view cell) r) (rows_of view cell) row past)

  pub beside : (column row : ℕ) → columns_of view cell ≤ column → cell_at (grid_of root view cell) column row ≡ None
  beside column row past =
      elim (cases_lt row (rows_of view cell)) [
        | inl within ↦ row_is column row within ∙ past_range (λ c. shown_of cell (frame_drawings root) c row) (columns_of view cell) column past
        | inr under ↦ below column row under
      ]

  all_have : (a n : ℕ) → AllHave (columns_of view cell) (map (λ r. row_cells cell (frame_drawings root) (columns_of view cell) r) (range_with_len a n))
  all_have a zero = tt
  all_have a (suc n) = (length-map-range_with_len (λ c. shown_of cell (frame_drawings root) c a) 0 (columns_of view cell), all_have (a + 1) n)

  pub is_whole : IsWhole (grid_of root view cell)
  is_whole = all_have 0 (rows_of view cell)
