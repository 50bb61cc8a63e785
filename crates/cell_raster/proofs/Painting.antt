-- Drawings on the cells of their blocks, one after another.
use Rattle.std.proofs.Common.{◌≡◌, ℕ, zero, suc, ◌+◌, ◌-◌, ◌*◌, ◌/◌, ◌^◌, ◌<◌, ◌≤◌, ◌&&◌, arith, Bool, true, false, List, [], ◌∷◌, ◌++◌, length, map, Option, Some, None, if◌then◌else◌, refl, sym, ap, ◌∙◌, pos, ℤ, ◌-ℤ◌, ◌+ℤ◌, ◌≤ℤ◌}
use Rattle.std.proofs.lemmas.Bool.{false≢true}
use Rattle.std.proofs.lemmas.Bool.Decides.{nat_tests}
use Rattle.std.proofs.lemmas.Int.{ints, clamps}
use Rattle.std.proofs.lemmas.Nat.{mul-le}
use Rattle.std.proofs.lemmas.List.FromFn.{length-map-range_with_len}
use Rattle.std.proofs.Math.Nat.{add-mul-div_right, add-mul}
use Rattle.std.specs.Int.{int_min, int_max}
use Rattle.std.specs.List.{range_with_len}
use Rattle.std.specs.Prelude.{int_le, int_lt, nat_le, unsigned_abs, ◌||◌}
use Rattle.unicode_segmentation.specs.Grapheme.{graphemes}
use Rattle.fx_geom.specs.declared.shapes.Offset.{Offset}
use Rattle.fx_geom.specs.declared.shapes.Rect.{Rect}
use Rattle.fx_geom.specs.declared.shapes.Size.{Size}
use Rattle.fx_geom.specs.Offset.{offset_sum}
use Rattle.fx_geom.specs.Size.{HasLengths}
use Rattle.draw_records.specs.declared.record.Record.{Record}
use Rattle.draw_records.specs.declared.record.Record.TheVariants.{Fill, Run}
use Rattle.cell_raster.specs.declared.area.Area.{Area}
use Rattle.cell_raster.specs.declared.area.CellMiddle.{CellMiddle}
use Rattle.cell_raster.specs.declared.block.Block.{Block}
use Rattle.cell_raster.specs.declared.cell.Cell.{Cell}
use Rattle.cell_raster.specs.declared.cell.Glyph.{Glyph}
use Rattle.cell_raster.specs.Area.{middle_of, area_of, common, holds, clipped_to, is_in_clip}
use Rattle.cell_raster.specs.Cell.{empty}
use Rattle.cell_raster.specs.Drawing.{Drawing, placed}
use Rattle.cell_raster.specs.CellGrid.{row_cells, grid_cells}
use Rattle.cell_raster.specs.Laws.{AllHave}
use Rattle.cell_raster.specs.Painted.{line_of, reach_of, reach, row_drawn, rows_drawn, is_in_block, IsBlock, row_filled, row_written, block_rows}
use Rattle.cell_raster.specs.Shown.{part_at, is_in_line, filled, inked, drawn_on, all_drawn, shown_of}
use Rattle.cell_raster.specs.Stretch.{lies_in, within, changed}
use Rattle.cell_raster.proofs.Stretches.{lies_yes, lies_from, longer, changed_same, changed_kept, changed_map, map_same}

-- ---- where a drawing is seen

and_false : (a : Bool) → (a && false) ≡ false
and_false true = refl
and_false false = refl

and_swap : (a b c d : Bool) → (a && b) && (c && d) ≡ (a && c) && (b && d)
and_swap true b true d = refl
and_swap true b false d = and_false b
and_swap false b c d = refl

after_both : (a b x : ℤ) → int_le (int_max a b) x ≡ (int_le a x && int_le b x)
after_both a b x = grind (arith, ints, clamps)

before_both : (a b x : ℤ) → int_lt x (int_min a b) ≡ (int_lt x a && int_lt x b)
before_both a b x = grind (arith, ints, clamps)

holds_common : (a b : Area) (m : CellMiddle) → holds (common a b) m ≡ (holds a m && holds b m)
holds_common a b m =
    let l1 = int_le a.left (pos m.x) in let l2 = int_le b.left (pos m.x) in
    let r1 = int_lt (pos m.x) a.right in let r2 = int_lt (pos m.x) b.right in
    let t1 = int_le a.top (pos m.y) in let t2 = int_le b.top (pos m.y) in
    let b1 = int_lt (pos m.y) a.bottom in let b2 = int_lt (pos m.y) b.bottom in
    let left = after_both a.left b.left (pos m.x) in
    let right = before_both a.right b.right (pos m.x) in
    let top = after_both a.top b.top (pos m.y) in
    let bottom = before_both a.bottom b.bottom (pos m.y) in
    (λ i. ((left i && right i) && top i) && bottom i)
    ∙ ap (λ t. (t && (t1 && t2)) && (b1 && b2)) (and_swap l1 l2 r1 r2)
    ∙ ap (λ t. t && (b1 && b2)) (and_swap (l1 && r1) (l2 && r2) t1 t2)
    ∙ and_swap ((l1 && r1) && t1) ((l2 && r2) && t2) b1 b2

holds_clipped : (clip : Option Area) (area : Area) (m : CellMiddle) → holds (clipped_to clip area) m ≡ (is_in_clip clip m && holds area m)
holds_clipped None area m = refl
holds_clipped (Some outer) area m = holds_common outer area m

and_true : (a : Bool) → (a && true) ≡ a
and_true true = refl
and_true false = refl

turn : (a b c : Bool) → ((a && true) && b) && c ≡ (b && c) && a
turn true b c = sym (and_true (b && c))
turn false b c = sym (and_false (b && c))

holds_line : (cell : Size) (at : Offset) (m : CellMiddle) → m.x < 2 ^ 64 → holds (line_of cell at) m ≡ is_in_line cell at m
holds_line cell at m small =
    let left = int_le at.x (pos m.x) in let top = int_le at.y (pos m.y) in let bottom = int_lt (pos m.y) (at.y +ℤ pos cell.h) in
    let right : int_lt (pos m.x) (pos (2 ^ 64)) ≡ true = grind (arith, ints) in
    ap (λ t. ((left && t) && top) && bottom) right ∙ turn left top bottom

-- what a record leaves on a cell whose middle lies where the record is seen
abbrev marked : Size → CellMiddle → Offset → Record → Cell → Cell
marked cell m at (Fill rect color) c = filled color
marked cell m at (Run by color text) c = inked color (part_at (graphemes true text) (unsigned_abs (pos m.x -ℤ (offset_sum at by).x) / cell.w)) c

both_tests : {A : Type 0} (s t : Bool) (x y : A) → (if s then (if t then x else y) else y) ≡ (if s && t then x else y)
both_tests true t x y = refl
both_tests false t x y = refl

inked_where : (t : Bool) (color : ℕ) (part : Option Glyph) (c : Cell) → inked color (if t then part else None) c ≡ (if t then inked color part c else c)
inked_where true color part c = refl
inked_where false color part c = refl

drawn-is : (cell : Size) (m : CellMiddle) (at : Offset) (r : Record) (clip : Option Area) (c : Cell) → m.x < 2 ^ 64
    → drawn_on cell m (record { what = r; at = at; clip = clip }) c
    ≡ (if holds (reach cell (record { what = r; at = at; clip = clip })) m then marked cell m at r c else c)
drawn-is cell m at (Fill rect color) clip c small =
    both_tests (is_in_clip clip m) (holds (area_of (placed at rect)) m) (filled color) c
    ∙ ap (λ t. if t then filled color else c) (sym (holds_clipped clip (area_of (placed at rect)) m))
drawn-is cell m at (Run by color text) clip c small =
    let place = offset_sum at by in
    let part = part_at (graphemes true text) (unsigned_abs (pos m.x -ℤ place.x) / cell.w) in
    ap (λ x. if is_in_clip clip m then x else c) (inked_where (is_in_line cell place m) color part c)
    ∙ both_tests (is_in_clip clip m) (is_in_line cell place m) (inked color part c) c
    ∙ ap (λ t. if is_in_clip clip m && t then inked color part c else c) (sym (holds_line cell place m small))
    ∙ ap (λ t. if t then inked color part c else c) (sym (holds_clipped clip (line_of cell place) m))

-- ---- a drawing on the cells of its block

-- rows of which those of a block are changed, each on its stretch
module _ (b : Block) (g : ℕ → ℕ → Cell → Cell) (h : ℕ → Cell → Cell) (columns total : ℕ)
    (same : (column row : ℕ) (c : Cell) → column < columns → row < total → g row column c ≡ (if is_in_block b column row then h column c else c)) where
  one_row : (test : Bool) (row : ℕ) (cells : List Cell) → length cells ≡ columns → row < total → lies_in b.top b.bottom row ≡ test
      → changed (g row) 0 cells ≡ (if test then changed (within b.left b.right h) 0 cells else cells)
  one_row true row cells long less is =
      changed_same (g row) (within b.left b.right h) 0 cells
      (λ i x low high. same i row x (omega arith) less
      ∙ ap (λ t. if lies_in b.left b.right i && t then h i x else x) is
      ∙ ap (λ t. if t then h i x else x) (and_true (lies_in b.left b.right i)))
  one_row false row cells long less is =
      changed_kept (g row) 0 cells
      (λ i x low high. same i row x (omega arith) less
      ∙ ap (λ t. if lies_in b.left b.right i && t then h i x else x) is
      ∙ ap (λ t. if t then h i x else x) (and_false (lies_in b.left b.right i)))

  rows_alike : (k : ℕ) (rows : List (List Cell)) → AllHave columns rows → k + length rows ≤ total
      → changed (λ row cells. changed (g row) 0 cells) k rows
      ≡ changed (within b.top b.bottom (λ row cells. changed (within b.left b.right h) 0 cells)) k rows
  rows_alike k [] all most = refl
  rows_alike k (cells ∷ rows) all most =
      let more = longer cells rows in
      let head = one_row (lies_in b.top b.bottom k) k cells all.0 (omega arith) refl in
      let tail = rows_alike (k + 1) rows all.1 (omega arith) in
      λ i. head i ∷ tail i

-- rows that are left as they are
rows_kept : (g : ℕ → ℕ → Cell → Cell) (columns total : ℕ) → ((column row : ℕ) (c : Cell) → column < columns → row < total → g row column c ≡ c)
    → (k : ℕ) (rows : List (List Cell)) → AllHave columns rows → k + length rows ≤ total → changed (λ row cells. changed (g row) 0 cells) k rows ≡ rows
rows_kept g columns total same k [] all most = refl
rows_kept g columns total same k (cells ∷ rows) all most =
    let more = longer cells rows in
    let long = all.0 in
    let head : changed (g k) 0 cells ≡ cells = changed_kept (g k) 0 cells (λ i x low high. same i k x (omega arith) (omega arith)) in
    let tail = rows_kept g columns total same (k + 1) rows all.1 (omega arith) in
    λ i. head i ∷ tail i

chosen : {A : Type 0} (t : Bool) (x y z : A) → (t ≡ true → x ≡ y) → (if t then x else z) ≡ (if t then y else z)
chosen true x y z same = same refl
chosen false x y z same = refl

first_true : (s t : Bool) → (s && t) ≡ true → s ≡ true
first_true true t e = refl
first_true false t e = e

second_true : (s t : Bool) → (s && t) ≡ true → t ≡ true
second_true true t e = e
second_true false t e = absurd (false≢true e)

-- ---- the corner of a block

no_cell : (b : Block) (column row : ℕ) → (nat_le b.right b.left || nat_le b.bottom b.top) ≡ true → is_in_block b column row ≡ false
no_cell b column row none = grind (arith, nat_tests)

pub left_below : (b : Block) → (nat_le b.right b.left || nat_le b.bottom b.top) ≡ false → b.left < b.right
left_below b full = grind (arith, nat_tests)

pub top_above : (b : Block) → (nat_le b.right b.left || nat_le b.bottom b.top) ≡ false → b.top < b.bottom
top_above b full = grind (arith, nat_tests)

corner : (b : Block) → b.left < b.right → b.top < b.bottom → is_in_block b b.left b.top ≡ true
corner b across down = λ i. lies_yes b.left b.right b.left (omega arith) across i && lies_yes b.top b.bottom b.top (omega arith) down i

-- a middle on which a run is seen isn't left of it
line_begins : (cell : Size) (d : Drawing) (by : Offset) (color : ℕ) (text : List ℕ) (m : CellMiddle) → d.what ≡ Run by color text
    → holds (reach cell d) m ≡ true → int_le (offset_sum d.at by).x (pos m.x) ≡ true
line_begins cell d by color text m what held =
    let line = line_of cell (offset_sum d.at by) in
    let same : holds (reach cell d) m ≡ holds (clipped_to d.clip line) m = ap (λ r. holds (clipped_to d.clip (reach_of cell d.at r)) m) what in
    let left = int_le line.left (pos m.x) in let right = int_lt (pos m.x) line.right in
    let top = int_le line.top (pos m.y) in let bottom = int_lt (pos m.y) line.bottom in
    let both : (is_in_clip d.clip m && holds line m) ≡ true = sym (holds_clipped d.clip line m) ∙ sym same ∙ held in
    first_true left right (first_true (left && right) top (first_true ((left && right) && top) bottom (second_true (is_in_clip d.clip m) (holds line m) both)))

spread_of : (w left column : ℕ) → left ≤ column → column * w ≡ left * w + (column - left) * w
spread_of w left column low =
    let sum : column ≡ left + (column - left) = omega arith in ap (λ n. n * w) sum ∙ add-mul left (column - left) w

further : (a n m : ℕ) (x : ℤ) → int_le x (pos a) ≡ true → m ≡ a + n → unsigned_abs (pos m -ℤ x) ≡ unsigned_abs (pos a -ℤ x) + n
further a n m x near e = let low : x ≤ℤ pos a = grind (arith, ints) in omega (arith, ints)

-- the cell of a run on which a middle lies, so many columns further
cells_on : (w h left column : ℕ) (x : ℤ) → 1 ≤ w → left ≤ column → int_le x (pos (left * w + h)) ≡ true
    → unsigned_abs (pos (column * w + h) -ℤ x) / w ≡ unsigned_abs (pos (left * w + h) -ℤ x) / w + (column - left)
cells_on w h left column x some low near =
    let spread : column * w ≡ left * w + (column - left) * w = spread_of w left column low in
    let here : unsigned_abs (pos (column * w + h) -ℤ x) ≡ unsigned_abs (pos (left * w + h) -ℤ x) + (column - left) * w = further (left * w + h) ((column - left) * w) (column * w + h) x near (omega arith) in
    ap (λ n. n / w) here ∙ add-mul-div_right (unsigned_abs (pos (left * w + h) -ℤ x)) (column - left) {z = w} (omega arith)

-- ---- middles of a grid

grid_column : (columns rows column row : ℕ) → column < columns → row < rows → columns * rows ≤ 65536 → column ≤ 65536
grid_column columns rows column row across down room = let product = mul-le columns 1 columns rows (omega arith) (omega arith) in omega arith

grid_row : (columns rows column row : ℕ) → column < columns → row < rows → columns * rows ≤ 65536 → row ≤ 65536
grid_row columns rows column row across down room = let product = mul-le 1 rows columns rows (omega arith) (omega arith) in omega arith

module _ (b : Block) (columns rows : ℕ) (right : b.right ≤ columns) (bottom : b.bottom ≤ rows) (room : columns * rows ≤ 65536)
    (full : (nat_le b.right b.left || nat_le b.bottom b.top) ≡ false) where
  pub corner_column : b.left ≤ 65536
  corner_column =
      let across = left_below b full in let down = top_above b full in
      grid_column columns rows b.left b.top (omega arith) (omega arith) room

  pub corner_row : b.top ≤ 65536
  corner_row =
      let across = left_below b full in let down = top_above b full in
      grid_row columns rows b.left b.top (omega arith) (omega arith) room

small_middle : (cell : Size) (column row : ℕ) → HasLengths cell → column ≤ 65536 → (middle_of cell column row).x < 2 ^ 64
small_middle cell column row lengths most =
    let w = lengths.w in let product = mul-le column cell.w 65536 (2 ^ 40) most w in omega arith

module _ (cell : Size) (d : Drawing) (rows : List (List Cell)) (columns : ℕ) (b : Block) (block : IsBlock b cell (reach cell d) columns (length rows))
    (lengths : HasLengths cell) (room : columns * length rows ≤ 65536) (all : AllHave columns rows) where
  marked_in : (column row : ℕ) (c : Cell) → column < columns → row < length rows
      → drawn_on cell (middle_of cell column row) d c
      ≡ (if is_in_block b column row then marked cell (middle_of cell column row) d.at d.what c else c)
  marked_in column row c across down =
      drawn-is cell (middle_of cell column row) d.at d.what d.clip c (small_middle cell column row lengths (grid_column columns (length rows) column row across down room))
      ∙ ap (λ t. if t then marked cell (middle_of cell column row) d.at d.what c else c) (block.holds column row across down)

  in_block : (h : ℕ → Cell → Cell)
      → ((column row : ℕ) (c : Cell) → column < columns → row < length rows → is_in_block b column row ≡ true
      → marked cell (middle_of cell column row) d.at d.what c ≡ h column c)
      → rows_drawn cell d rows ≡ block_rows b (λ cells. changed (within b.left b.right h) 0 cells) rows
  in_block h same =
      rows_alike b (λ row column c. drawn_on cell (middle_of cell column row) d c) h columns (length rows)
      (λ column row c across down. marked_in column row c across down
      ∙ chosen (is_in_block b column row) (marked cell (middle_of cell column row) d.at d.what c) (h column c) c
      (λ is. same column row c across down is))
      0 rows all (omega arith)

  pub nothing_drawn : (nat_le b.right b.left || nat_le b.bottom b.top) ≡ true → rows_drawn cell d rows ≡ rows
  nothing_drawn none =
      rows_kept (λ row column c. drawn_on cell (middle_of cell column row) d c) columns (length rows)
      (λ column row c across down. marked_in column row c across down
      ∙ ap (λ t. if t then marked cell (middle_of cell column row) d.at d.what c else c) (no_cell b column row none))
      0 rows all (omega arith)

  pub block_filled : (rect : Rect) (color : ℕ) → d.what ≡ Fill rect color → rows_drawn cell d rows ≡ block_rows b (row_filled color b.left b.right) rows
  block_filled rect color what =
      in_block (λ k c. filled color) (λ column row c across down is. ap (λ r. marked cell (middle_of cell column row) d.at r c) what)

  pub block_written : (by : Offset) (color : ℕ) (text : List ℕ) → d.what ≡ Run by color text → 1 ≤ cell.w
      → (nat_le b.right b.left || nat_le b.bottom b.top) ≡ false
      → rows_drawn cell d rows
      ≡ block_rows b (row_written color (graphemes true text) (unsigned_abs (pos (middle_of cell b.left b.top).x -ℤ (offset_sum d.at by).x) / cell.w) b.left b.right) rows
  block_written by color text what some full =
      let place = offset_sum d.at by in
      let right = block.right in
      let bottom = block.bottom in
      let across = left_below b full in
      let down = top_above b full in
      let near : int_le place.x (pos (middle_of cell b.left b.top).x) ≡ true =
      line_begins cell d by color text (middle_of cell b.left b.top) what
      (block.holds b.left b.top (omega arith) (omega arith) ∙ corner b across down) in
      in_block (λ k. inked color (part_at (graphemes true text) (unsigned_abs (pos (middle_of cell b.left b.top).x -ℤ place.x) / cell.w + (k - b.left))))
      (λ column row c less below is.
      ap (λ r. marked cell (middle_of cell column row) d.at r c) what
      ∙ ap (λ n. inked color (part_at (graphemes true text) n) c)
      (cells_on cell.w (cell.w / 2) b.left column place.x some (lies_from b.left b.right column (first_true (lies_in b.left b.right column) (lies_in b.top b.bottom row) is)) near))

-- ---- one more drawing

all_drawn_more : (cell : Size) (m : CellMiddle) (ds : List Drawing) (d : Drawing) (c : Cell)
    → drawn_on cell m d (all_drawn cell m ds c) ≡ all_drawn cell m (ds ++ d ∷ []) c
all_drawn_more cell m [] d c = refl
all_drawn_more cell m (e ∷ ds) d c = all_drawn_more cell m ds d (drawn_on cell m e c)

row_more : (cell : Size) (ds : List Drawing) (d : Drawing) (columns row : ℕ)
    → row_drawn cell d row (row_cells cell ds columns row) ≡ row_cells cell (ds ++ d ∷ []) columns row
row_more cell ds d columns row =
    changed_map (λ column. drawn_on cell (middle_of cell column row) d) (λ column. shown_of cell ds column row) 0 columns
    ∙ map_same (λ column. drawn_on cell (middle_of cell column row) d (shown_of cell ds column row)) (λ column. shown_of cell (ds ++ d ∷ []) column row)
    (range_with_len 0 columns) (λ column. all_drawn_more cell (middle_of cell column row) ds d empty)

pub drawing_more : (cell : Size) (ds : List Drawing) (d : Drawing) (columns rows : ℕ)
    → rows_drawn cell d (grid_cells cell ds columns rows) ≡ grid_cells cell (ds ++ d ∷ []) columns rows
drawing_more cell ds d columns rows =
    changed_map (row_drawn cell d) (λ row. row_cells cell ds columns row) 0 rows
    ∙ map_same (λ row. row_drawn cell d row (row_cells cell ds columns row)) (λ row. row_cells cell (ds ++ d ∷ []) columns row)
    (range_with_len 0 rows) (λ row. row_more cell ds d columns row)

pub grid_whole : (cell : Size) (ds : List Drawing) (columns k n : ℕ)
    → AllHave columns (map (λ row. row_cells cell ds columns row) (range_with_len k n))
grid_whole cell ds columns k zero = tt
grid_whole cell ds columns k (suc n) =
    (length-map-range_with_len (λ column. shown_of cell ds column k) 0 columns, grid_whole cell ds columns (k + 1) n)

pub grid_height : (cell : Size) (ds : List Drawing) (columns rows : ℕ) → length (grid_cells cell ds columns rows) ≡ rows
grid_height cell ds columns rows = length-map-range_with_len (λ row. row_cells cell ds columns row) 0 rows
