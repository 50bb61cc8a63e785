-- Rows of a grid that are changed one after another.
use Rattle.std.proofs.Common.{◌≡◌, ℕ, zero, suc, ◌+◌, ◌<◌, ◌≤◌, arith, List, [], ◌∷◌, length, set, get_or, refl, sym, ap, ◌∙◌}
use Rattle.std.proofs.lemmas.List.{length-map, map-set}
use Rattle.std.specs.Prelude.{Vec}
use Rattle.std.specs.declared.alloc.Global.{Global}
use Rattle.cell_raster.specs.declared.cell.Cell.{Cell}
use Rattle.cell_raster.specs.Laws.{AllHave}
use Rattle.cell_raster.specs.Stretch.{within, changed}
use Rattle.cell_raster.specs.View.{row_in, rows_in}
use Rattle.cell_raster.proofs.Stretches.{longer, changed_at, within_late, length-changed, stretch_more}

have_at : (n : ℕ) (rows : List (List Cell)) (i : ℕ) (d : List Cell) → AllHave n rows → i < length rows → length (get_or rows i d) ≡ n
have_at n [] i d all less = absurd (let none : length {A = List Cell} [] ≡ 0 = refl in omega arith)
have_at n (cells ∷ rows) zero d all less = all.0
have_at n (cells ∷ rows) (suc i) d all less = let more = longer cells rows in have_at n rows i d all.1 (omega arith)

row_item : (rows : List (Vec Cell Global)) (i : ℕ) (d : Vec Cell Global) → i < length rows → (get_or rows i d).items ≡ get_or (rows_in rows) i d.items
row_item [] i d less = absurd (let none : length {A = Vec Cell Global} [] ≡ 0 = refl in omega arith)
row_item (v ∷ rows) zero d less = refl
row_item (v ∷ rows) (suc i) d less = let more = longer v rows in row_item rows i d (omega arith)

module _ (f : List Cell → List Cell) (top i : ℕ) (old : List (List Cell)) (now : List (Vec Cell Global)) (item : Vec Cell Global)
    (is : rows_in now ≡ changed (within top i (λ row. f)) 0 old) (less : i < length now) (at : item ≡ get_or now i item) where
  shown_item : item.items ≡ get_or (rows_in now) i item.items
  shown_item = ap row_in at ∙ row_item now i item less

  pub rows_long : length now ≡ length old
  rows_long = sym (length-map now row_in) ∙ ap length is ∙ length-changed (within top i (λ row. f)) 0 old

  -- the next row is as long as it was
  pub row_long : (n : ℕ) → AllHave n old → length item.items ≡ n
  row_long n all =
      let long = rows_long in
      ap length (shown_item ∙ ap (λ xs. get_or xs i item.items) is ∙ changed_at (within top i (λ row. f)) 0 old i item.items (omega arith)
      ∙ within_late top i (λ row. f) (0 + i) (get_or old i item.items) (omega arith))
      ∙ have_at n old i item.items all (omega arith)

  pub row_changed : (new : Vec Cell Global) → top ≤ i → new.items ≡ f item.items → rows_in (set now i new) ≡ changed (within top (i + 1) (λ row. f)) 0 old
  row_changed new low made =
      let same = length-map now row_in in
      map-set row_in now i new ∙ stretch_more (λ row. f) top i old (rows_in now) item.items new.items is low (omega arith) shown_item made
