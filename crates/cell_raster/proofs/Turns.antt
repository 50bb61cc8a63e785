-- One drawing more on the rows of the program.
use Rattle.std.proofs.Common.{◌≡◌, ℕ, ◌+◌, ◌*◌, ◌/◌, ◌<◌, ◌≤◌, arith, true, false, pos, ◌-ℤ◌, List, [], ◌∷◌, ◌++◌, length, map, take, get_or, sym, ap, subst, ◌∙◌}
use Rattle.std.proofs.lemmas.List.{length-map, map-append, take_more}
use Rattle.std.specs.Prelude.{Vec, nat_le, unsigned_abs, ◌||◌}
use Rattle.std.specs.declared.alloc.Global.{Global}
use Rattle.unicode_segmentation.specs.Grapheme.{graphemes}
use Rattle.fx_geom.specs.declared.shapes.Offset.{Offset}
use Rattle.fx_geom.specs.declared.shapes.Rect.{Rect}
use Rattle.fx_geom.specs.declared.shapes.Size.{Size}
use Rattle.fx_geom.specs.Offset.{offset_sum}
use Rattle.fx_geom.specs.Size.{HasLengths}
use Rattle.draw_records.specs.declared.record.Record.TheVariants.{Fill, Run}
use Rattle.cell_raster.specs.declared.area.Area.{Area}
use Rattle.cell_raster.specs.declared.block.Block.{Block}
use Rattle.cell_raster.specs.declared.cell.Cell.{Cell}
use Rattle.cell_raster.specs.declared.drawing.Drawn.{Drawn}
use Rattle.cell_raster.specs.Area.{middle_of}
use Rattle.cell_raster.specs.Drawing.{Drawing}
use Rattle.cell_raster.specs.CellGrid.{grid_cells}
use Rattle.cell_raster.specs.Laws.{AllHave}
use Rattle.cell_raster.specs.Painted.{LiesOn, reach, rows_drawn, IsBlock, row_filled, row_written, block_rows}
use Rattle.cell_raster.specs.Seen.{seen}
use Rattle.cell_raster.specs.View.{row_in, rows_in}
use Rattle.cell_raster.proofs.Painting.{nothing_drawn, block_filled, block_written, drawing_more, grid_whole, grid_height, left_below, top_above, corner_column, corner_row}

module _ (cell : Size) (d : Drawing) (rows : List (Vec Cell Global)) (columns : ℕ) (b : Block) (area : Area)
    (block : IsBlock b cell area columns (length rows)) (is : area ≡ reach cell d) (lengths : HasLengths cell) (room : columns * length rows ≤ 65536) (all : AllHave columns (rows_in rows)) where
  its_block : IsBlock b cell (reach cell d) columns (length (rows_in rows))
  its_block =
      subst (λ a. IsBlock b cell a columns (length (rows_in rows))) is (subst (λ n. IsBlock b cell area columns n) (sym (length-map rows row_in)) block)

  its_room : columns * length (rows_in rows) ≤ 65536
  its_room = subst (λ n. columns * n ≤ 65536) (sym (length-map rows row_in)) room

  pub stays : (nat_le b.right b.left || nat_le b.bottom b.top) ≡ true → rows_in rows ≡ rows_drawn cell d (rows_in rows)
  stays none = sym (nothing_drawn cell d (rows_in rows) columns b its_block lengths its_room all none)

  pub fills : (now : List (Vec Cell Global)) (rect : Rect) (color : ℕ) → d.what ≡ Fill rect color
      → rows_in now ≡ block_rows b (row_filled color b.left b.right) (rows_in rows) → rows_in now ≡ rows_drawn cell d (rows_in rows)
  fills now rect color what made = made ∙ sym (block_filled cell d (rows_in rows) columns b its_block lengths its_room all rect color what)

  pub writes : (now : List (Vec Cell Global)) (by at : Offset) (color : ℕ) (text : List ℕ) (skip : ℕ) → d.what ≡ Run by color text → 1 ≤ cell.w
      → (nat_le b.right b.left || nat_le b.bottom b.top) ≡ false → at ≡ offset_sum d.at by
      → skip ≡ unsigned_abs (pos (middle_of cell b.left b.top).x -ℤ at.x) / cell.w
      → rows_in now ≡ block_rows b (row_written color (graphemes true text) skip b.left b.right) (rows_in rows) → rows_in now ≡ rows_drawn cell d (rows_in rows)
  writes now by at color text skip what some full place number made =
      made
      ∙ ap (λ n. block_rows b (row_written color (graphemes true text) n b.left b.right) (rows_in rows))
      (number ∙ ap (λ (o : Offset). unsigned_abs (pos (middle_of cell b.left b.top).x -ℤ o.x) / cell.w) place)
      ∙ sym (block_written cell d (rows_in rows) columns b its_block lengths its_room all by color text what some full)

  pub lies_on : (nat_le b.right b.left || nat_le b.bottom b.top) ≡ false → LiesOn b (rows_in rows)
  lies_on full =
      let across = left_below b full in
      let down = top_above b full in
      record { columns = columns; across = omega arith; down = omega arith; right = block.right; whole = all }

  pub left_small : (nat_le b.right b.left || nat_le b.bottom b.top) ≡ false → b.left ≤ 65536
  left_small full = corner_column b columns (length (rows_in rows)) its_block.right its_block.bottom its_room full

  pub top_small : (nat_le b.right b.left || nat_le b.bottom b.top) ≡ false → b.top ≤ 65536
  top_small full = corner_row b columns (length (rows_in rows)) its_block.right its_block.bottom its_room full

seen_more : (xs : List Drawn) (i : ℕ) (x : Drawn) → i < length xs → x ≡ get_or xs i x → map seen (take (i + 1) xs) ≡ map seen (take i xs) ++ seen x ∷ []
seen_more xs i x less at =
    ap (map seen) (take_more xs i x less) ∙ map-append seen (take i xs) (get_or xs i x ∷ []) ∙ ap (λ y. map seen (take i xs) ++ seen y ∷ []) (sym at)

pub grid_more : (cell : Size) (xs : List Drawn) (i : ℕ) (x : Drawn) (columns rows : ℕ) (before after : List (List Cell))
    → before ≡ grid_cells cell (map seen (take i xs)) columns rows → i < length xs → x ≡ get_or xs i x → after ≡ rows_drawn cell (seen x) before
    → after ≡ grid_cells cell (map seen (take (i + 1) xs)) columns rows
grid_more cell xs i x columns rows before after is less at made =
    made ∙ ap (rows_drawn cell (seen x)) is ∙ drawing_more cell (map seen (take i xs)) (seen x) columns rows
    ∙ ap (λ ds. grid_cells cell ds columns rows) (sym (seen_more xs i x less at))

module _ (cell : Size) (ds : List Drawing) (columns rows : ℕ) (vs : List (Vec Cell Global)) (is : rows_in vs ≡ grid_cells cell ds columns rows) where
  pub as_high : length vs ≡ rows
  as_high = sym (length-map vs row_in) ∙ ap length is ∙ grid_height cell ds columns rows

  pub as_wide : AllHave columns (rows_in vs)
  as_wide = subst (AllHave columns) (sym is) (grid_whole cell ds columns 0 rows)
