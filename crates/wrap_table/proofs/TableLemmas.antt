-- The pass over the children of a Table gives their places and the height of all rows.
use Rattle.std.proofs.Common.{◌≡◌, ℕ, ◌+◌, ◌<◌, ◌≤◌, ◌==◌, max, arith, true, false, if◌then◌else◌, List, [], ◌∷◌, ◌++◌, length, map, take, append_assoc, ap, ap₂, sym, refl, ◌∙◌}
use Rattle.std.specs.Prelude.{slice_index}
use Rattle.std.proofs.lemmas.Bool.Decides.{nat_tests}
use Rattle.std.proofs.lemmas.Grind.{common_steps}
use Rattle.std.proofs.lemmas.List.{map-append, take_more}
use Rattle.fx_geom.specs.Len.{stopped, length_sum}
use Rattle.wrap_table.specs.declared.table.TablePass.{TablePass}
use Rattle.wrap_table.specs.Stretches.{greatest_of, spaced_extent, starts_of}
use Rattle.wrap_table.specs.Runs.{cut_after, is_full}
use Rattle.wrap_table.specs.Places.{offset_at, places_from, height_of, table_row, table_rows, table_places_of}
use Rattle.wrap_table.specs.Pass.{place_at, table_start, row_begun, row_ready, table_put, table_height_at, table_places_after, table_end}
use Rattle.wrap_table.proofs.ExtentLemmas.{stopped_sum, sum-last, starts-last, greatest_of-last}
use Rattle.wrap_table.proofs.WrapLemmas.{spaced_extent-cut}

-- the columns of a row, by how many of them have a child
abbrev pub columns : List ℕ → List ℕ → List ℕ
columns widths row = take (length row) widths

-- what a pass holds of the children so far: the present row begins at this height and has these children, by their heights
pub record StandsAt (widths : List ℕ) (p : TablePass) (top : ℕ) (row : List ℕ) : Type 0 where
  pub within : length row ≤ length widths
  pub count : p.column ≡ length row
  pub next : p.left ≡ stopped (spaced_extent 0 (columns widths row))
  pub begins : p.top ≡ stopped top
  pub high : p.height ≡ greatest_of row

length-last : (row : List ℕ) (h : ℕ) → length (row ++ h ∷ []) ≡ length row + 1
length-last row h = grind (arith, common_steps)

-- one column more
columns-last : (widths row : List ℕ) (h : ℕ) → length row < length widths → columns widths (row ++ h ∷ []) ≡ columns widths row ++ slice_index widths (length row) ∷ []
columns-last widths row h less = ap (λ n. take n widths) (length-last row h) ∙ take_more widths (length row) 0 less

-- a child was put into the next column
stands_more : (widths : List ℕ) (p : TablePass) (top : ℕ) (row : List ℕ) (h : ℕ) → StandsAt widths p top row → length row < length widths
    → StandsAt widths (table_put (slice_index widths p.column) h p) top (row ++ h ∷ [])
stands_more widths p top row h s less =
    let more = length-last row h in record {
      within = omega (arith, more);
      count = ap (λ n. n + 1) s.count ∙ sym more;
      next = ap₂ (λ l k. length_sum l (slice_index widths k)) s.next s.count
          ∙ stopped_sum (spaced_extent 0 (columns widths row)) (slice_index widths (length row))
          ∙ ap stopped (sym (ap (spaced_extent 0) (columns-last widths row h less) ∙ sum-last (columns widths row) (slice_index widths (length row))));
      begins = s.begins;
      high = ap (λ n. max n h) s.high ∙ sym (greatest_of-last row h);
    }

-- the next row begins
stands_begun : (widths : List ℕ) (p : TablePass) (top : ℕ) (row : List ℕ) → StandsAt widths p top row → StandsAt widths (row_begun p) (top + greatest_of row + 0) []
stands_begun widths p top row s = record {
  within = omega arith;
  count = refl;
  next = refl;
  begins = ap₂ length_sum s.begins s.high ∙ same top (greatest_of row);
  high = refl;
}
  where
    same : (t h : ℕ) → length_sum (stopped t) h ≡ stopped (t + h + 0)
    same t h = omega arith

-- the places of the present row and of what is left, and the height of all
pub record MeetsAt (widths : List ℕ) (p : TablePass) (top : ℕ) (row left : List ℕ) (rows : List (List ℕ)) : Type 0 where
  pub places : map (offset_at top) (starts_of 0 (columns widths row)) ++ table_places_after widths p left ≡ places_from 0 top (map (table_row widths) rows)
  pub height : table_height_at (table_end widths p left) ≡ stopped (top + spaced_extent 0 (map (λ run. run.height) (map (table_row widths) rows)))

-- the same where the next child is about to be put into the row
pub record MeetsPut (widths : List ℕ) (q : TablePass) (top : ℕ) (row : List ℕ) (h : ℕ) (left : List ℕ) (rows : List (List ℕ)) : Type 0 where
  pub places : map (offset_at top) (starts_of 0 (columns widths row))
      ++ place_at q.left q.top ∷ table_places_after widths (table_put (slice_index widths q.column) h q) left ≡ places_from 0 top (map (table_row widths) rows)
  pub height : table_height_at (table_end widths (table_put (slice_index widths q.column) h q) left)
      ≡ stopped (top + spaced_extent 0 (map (λ run. run.height) (map (table_row widths) rows)))

meets_put : (widths : List ℕ) (q : TablePass) (top : ℕ) (row : List ℕ) (h : ℕ) (left : List ℕ) (rows : List (List ℕ)) → StandsAt widths q top row → length row < length widths
    → MeetsAt widths (table_put (slice_index widths q.column) h q) top (row ++ h ∷ []) left rows → MeetsPut widths q top row h left rows
meets_put widths q top row h left rows s less m =
    let next = table_put (slice_index widths q.column) h q in
    let begun = map (offset_at top) (starts_of 0 (columns widths row)) in
    let place : place_at q.left q.top ≡ offset_at top (stopped (spaced_extent 0 (columns widths row))) = ap₂ place_at s.next s.begins in
    let starts : map (offset_at top) (starts_of 0 (columns widths (row ++ h ∷ []))) ≡ begun ++ place_at q.left q.top ∷ [] =
    ap (λ es. map (offset_at top) (starts_of 0 es)) (columns-last widths row h less)
    ∙ ap (map (offset_at top)) (starts-last (columns widths row) (slice_index widths (length row)))
    ∙ map-append (offset_at top) (starts_of 0 (columns widths row)) (stopped (spaced_extent 0 (columns widths row)) ∷ [])
    ∙ ap (λ o. begun ++ o ∷ []) (sym place) in record {
      places = sym (append_assoc begun (place_at q.left q.top ∷ []) (table_places_after widths next left))
          ∙ ap (λ ys. ys ++ table_places_after widths next left) (sym starts) ∙ m.places;
      height = m.height;
    }

-- the row is full, and the child begins the next one; or it stands in the row
meets_full : (widths : List ℕ) (p : TablePass) (top : ℕ) (row : List ℕ) (h : ℕ) (left : List ℕ) → (p.column == length widths) ≡ true
    → MeetsPut widths (row_begun p) (top + greatest_of row + 0) [] h left (cut_after (is_full (length widths)) (h ∷ []) left)
    → MeetsAt widths p top row (h ∷ left) (row ∷ cut_after (is_full (length widths)) (h ∷ []) left)
meets_full widths p top row h left full m =
    let ready : row_ready (length widths) p ≡ row_begun p = ap (λ b. if b then row_begun p else p) full in record {
      places = ap (λ ys. map (offset_at top) (starts_of 0 (columns widths row)) ++ ys)
          (ap (λ q. place_at q.left q.top ∷ table_places_after widths (table_put (slice_index widths q.column) h q) left) ready ∙ m.places);
      height = ap (λ q. table_height_at (table_end widths (table_put (slice_index widths q.column) h q) left)) ready ∙ m.height
          ∙ ap stopped (regroup top (greatest_of row) _ _ (spaced_extent-cut (is_full (length widths)) (λ run. run.height) (table_row widths) 0 (greatest_of row) (h ∷ []) left));
    }
  where
    regroup : (t h e n : ℕ) → n ≡ h + 0 + e → t + h + 0 + e ≡ t + n
    regroup t h e n is = omega arith

meets_more : (widths : List ℕ) (p : TablePass) (top : ℕ) (row : List ℕ) (h : ℕ) (left : List ℕ) (rows : List (List ℕ)) → (p.column == length widths) ≡ false
    → MeetsPut widths p top row h left rows → MeetsAt widths p top row (h ∷ left) rows
meets_more widths p top row h left rows room m =
    let ready : row_ready (length widths) p ≡ p = ap (λ b. if b then row_begun p else p) room in record {
      places = ap (λ q. map (offset_at top) (starts_of 0 (columns widths row)) ++ place_at q.left q.top ∷ table_places_after widths (table_put (slice_index widths q.column) h q) left) ready ∙ m.places;
      height = ap (λ q. table_height_at (table_end widths (table_put (slice_index widths q.column) h q) left)) ready ∙ m.height;
    }

not_full : (row widths : List ℕ) → length row ≤ length widths → (length row == length widths) ≡ false → length row < length widths
not_full row widths within room = grind (arith, nat_tests)

table_meets : (widths : List ℕ) (left : List ℕ) (p : TablePass) (top : ℕ) (row : List ℕ) → 1 ≤ length widths → StandsAt widths p top row
    → MeetsAt widths p top row left (cut_after (is_full (length widths)) row left)
table_meets widths [] p top row some s = record {
  places = refl;
  height = ap₂ length_sum s.begins s.high ∙ stopped_sum top (greatest_of row);
}
table_meets widths (h ∷ left) p top row some s =
    let n = length widths in
    elim (length row == n)
    as (λ b. (length row == n) ≡ b → MeetsAt widths p top row (h ∷ left) (if b then row ∷ cut_after (is_full n) (h ∷ []) left else cut_after (is_full n) (row ++ h ∷ []) left)) [
      | true ↦ λ e.
          let begun = stands_begun widths p top row s in
          meets_full widths p top row h left (ap (λ k. k == n) s.count ∙ e)
          (meets_put widths (row_begun p) (top + greatest_of row + 0) [] h left _ begun some
          (table_meets widths left (table_put (slice_index widths 0) h (row_begun p)) (top + greatest_of row + 0) (h ∷ []) some (stands_more widths (row_begun p) (top + greatest_of row + 0) [] h begun some)))
      | false ↦ λ e.
          let less = not_full row widths s.within e in
          meets_more widths p top row h left _ (ap (λ k. k == n) s.count ∙ e)
          (meets_put widths p top row h left _ s less
          (table_meets widths left (table_put (slice_index widths p.column) h p) top (row ++ h ∷ []) some (stands_more widths p top row h s less)))
    ] refl

-- all children
start_room : (widths : List ℕ) → 1 ≤ length widths → (0 == length widths) ≡ false
start_room widths some = grind (arith, nat_tests)

stands_start : (widths : List ℕ) → StandsAt widths table_start 0 []
stands_start widths = record { within = omega arith; count = refl; next = refl; begins = refl; high = refl }

meets_first : (widths : List ℕ) (h : ℕ) (left : List ℕ) → 1 ≤ length widths → MeetsAt widths table_start 0 [] (h ∷ left) (cut_after (is_full (length widths)) (h ∷ []) left)
meets_first widths h left some =
    meets_more widths table_start 0 [] h left _ (start_room widths some)
    (meets_put widths table_start 0 [] h left _ (stands_start widths) some
    (table_meets widths left (table_put (slice_index widths 0) h table_start) 0 (h ∷ []) some (stands_more widths table_start 0 [] h (stands_start widths) some)))

pub table_places-all : (widths heights : List ℕ) → 1 ≤ length widths → table_places_after widths table_start heights ≡ table_places_of widths heights
table_places-all widths [] some = refl
table_places-all widths (h ∷ left) some = (meets_first widths h left some).places

pub table_height-all : (widths heights : List ℕ) → 1 ≤ length widths → table_height_at (table_end widths table_start heights) ≡ height_of 0 (table_rows widths heights)
table_height-all widths [] some = refl
table_height-all widths (h ∷ left) some = (meets_first widths h left some).height ∙ ap stopped (nothing _)
  where
    nothing : (n : ℕ) → 0 + n ≡ n
    nothing n = omega arith
