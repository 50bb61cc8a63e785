-- What a damage holds, and what holds it.
use Rattle.std.proofs.Common.{◌≡◌, ℕ, zero, suc, ◌+◌, ◌<◌, ◌≤◌, ◌⊎◌, inl, inr, arith, Bool, true, false, ◌==◌, ◌&&◌, List, [], ◌∷◌, length, Option, Some, None, refl, sym, ap, subst, ◌∙◌, if◌then◌else◌}
use Rattle.std.proofs.lemmas.Bool.{false≢true, eqb-true}
use Rattle.std.proofs.lemmas.Grind.{common_steps}
use Rattle.std.specs.Prelude.{slice_get}
use Rattle.cell_raster.specs.declared.cell.Cell.{Cell}
use Rattle.cell_raster.specs.declared.damage.Damage.{Damage}
use Rattle.cell_raster.specs.declared.damage.Hull.{Hull}
use Rattle.cell_raster.specs.Cell.{differs}
use Rattle.cell_raster.specs.Damage.{grown, grown_where, row_hull, rows_hull, damage_in, same_size, whole, damage_of}
use Rattle.cell_raster.specs.CellGrid.{CellGrid, cell_in, cell_at}
use Rattle.cell_raster.specs.Laws.{AllHave, IsWhole, HoldsCell, HoldsChanges}
use Rattle.cell_raster.proofs.Same.{same, apart}

longer : {A : Type 0} (x : A) (xs : List A) → length (x ∷ xs) ≡ length xs + 1
longer x xs = grind (arith, common_steps)

not_empty : {A : Type 0} (y : A) (ys : List A) → length {A = A} [] ≡ length (y ∷ ys) → ⊥
not_empty {A = A} y ys e = let none : length {A = A} [] ≡ 0 = refl in omega (arith, longer y ys, none, e)

same_tails : {A : Type 0} (x : A) (xs : List A) (y : A) (ys : List A) → length (x ∷ xs) ≡ length (y ∷ ys) → length xs ≡ length ys
same_tails x xs y ys e = omega (arith, longer x xs, longer y ys, e)

-- ---- a cell in a hull

record Covers (h : Hull) (column row : ℕ) : Type 0 where
  left : h.left ≤ column
  right : column < h.right
  top : h.top ≤ row
  bottom : row < h.bottom

abbrev Has : Option Hull → ℕ → ℕ → Type 0
Has None column row = ⊥
Has (Some h) column row = Covers h column row

keeps_grown : (hull : Option Hull) (c r column row : ℕ) → Has hull c r → Has (Some (grown hull column row)) c r
keeps_grown None c r column row has = absurd has
keeps_grown (Some h) c r column row has =
    record {
      left = let k = has.left in omega arith;
      right = let k = has.right in omega arith;
      top = let k = has.top in omega arith;
      bottom = let k = has.bottom in omega arith;
    }

takes_grown : (hull : Option Hull) (column row : ℕ) → Has (Some (grown hull column row)) column row
takes_grown None column row = record { left = omega arith; right = omega arith; top = omega arith; bottom = omega arith }
takes_grown (Some h) column row = record { left = omega arith; right = omega arith; top = omega arith; bottom = omega arith }

keeps_where : (test : Bool) (hull : Option Hull) (c r column row : ℕ) → Has hull c r → Has (grown_where test hull column row) c r
keeps_where true hull c r column row has = keeps_grown hull c r column row has
keeps_where false hull c r column row has = has

row_keeps : (xs ys : List Cell) (column row : ℕ) (hull : Option Hull) (c r : ℕ) → Has hull c r → Has (row_hull xs ys column row hull) c r
row_keeps [] ys column row hull c r has = has
row_keeps (x ∷ xs) [] column row hull c r has = has
row_keeps (x ∷ xs) (y ∷ ys) column row hull c r has =
    row_keeps xs ys (column + 1) row (grown_where (differs x y) hull column row) c r (keeps_where (differs x y) hull c r column row has)

rows_keep : (xs ys : List (List Cell)) (row : ℕ) (hull : Option Hull) (c r : ℕ) → Has hull c r → Has (rows_hull xs ys row hull) c r
rows_keep [] ys row hull c r has = has
rows_keep (x ∷ xs) [] row hull c r has = has
rows_keep (x ∷ xs) (y ∷ ys) row hull c r has = rows_keep xs ys (row + 1) (row_hull x y 0 row hull) c r (row_keeps x y 0 row hull c r has)

-- the first cell of two rows: it is the same, or it is in the hull
first_met : (test : Bool) (x y : Cell) (xs ys : List Cell) (column row : ℕ) (hull : Option Hull) → differs x y ≡ test
    → (Some x ≡ Some y) ⊎ Has (row_hull xs ys (column + 1) row (grown_where test hull column row)) column row
first_met false x y xs ys column row hull is = inl (ap Some (same x y is))
first_met true x y xs ys column row hull is =
    inr (row_keeps xs ys (column + 1) row (Some (grown hull column row)) column row (takes_grown hull column row))

row_met : (xs ys : List Cell) (i column row : ℕ) (hull : Option Hull) → length xs ≡ length ys
    → (slice_get xs i ≡ slice_get ys i) ⊎ Has (row_hull xs ys column row hull) (column + i) row
row_met [] [] i column row hull e = inl refl
row_met [] (y ∷ ys) i column row hull e = absurd (not_empty y ys e)
row_met (x ∷ xs) [] i column row hull e = absurd (not_empty x xs (sym e))
row_met (x ∷ xs) (y ∷ ys) zero column row hull e =
    elim (first_met (differs x y) x y xs ys column row hull refl) [
      | inl alike ↦ inl alike
      | inr has ↦ inr (let at : column ≡ column + 0 = omega arith in
          subst (λ c. Has (row_hull xs ys (column + 1) row (grown_where (differs x y) hull column row)) c row) at has)
    ]
row_met (x ∷ xs) (y ∷ ys) (suc i) column row hull e =
    elim (row_met xs ys i (column + 1) row (grown_where (differs x y) hull column row) (same_tails x xs y ys e)) [
      | inl alike ↦ inl alike
      | inr has ↦ inr (let at : (column + 1) + i ≡ column + suc i = omega arith in
          subst (λ c. Has (row_hull xs ys (column + 1) row (grown_where (differs x y) hull column row)) c row) at has)
    ]

rows_met : (n : ℕ) (xs ys : List (List Cell)) (column i row : ℕ) (hull : Option Hull) → AllHave n xs → AllHave n ys → length xs ≡ length ys
    → (cell_in (slice_get xs i) column ≡ cell_in (slice_get ys i) column) ⊎ Has (rows_hull xs ys row hull) column (row + i)
rows_met n [] [] column i row hull a b e = inl refl
rows_met n [] (y ∷ ys) column i row hull a b e = absurd (not_empty y ys e)
rows_met n (x ∷ xs) [] column i row hull a b e = absurd (not_empty x xs (sym e))
rows_met n (x ∷ xs) (y ∷ ys) column zero row hull a b e =
    elim (row_met x y column 0 row hull (a.0 ∙ sym b.0)) [
      | inl alike ↦ inl alike
      | inr has ↦ inr (let across : 0 + column ≡ column = omega arith in
          let down : row ≡ row + 0 = omega arith in
          let here : Has (row_hull x y 0 row hull) column row = subst (λ c. Has (row_hull x y 0 row hull) c row) across has in
          subst (λ r. Has (rows_hull xs ys (row + 1) (row_hull x y 0 row hull)) column r) down
          (rows_keep xs ys (row + 1) (row_hull x y 0 row hull) column row here))
    ]
rows_met n (x ∷ xs) (y ∷ ys) column (suc i) row hull a b e =
    elim (rows_met n xs ys column i (row + 1) (row_hull x y 0 row hull) a.1 b.1 (same_tails x xs y ys e)) [
      | inl alike ↦ inl alike
      | inr has ↦ inr (let down : (row + 1) + i ≡ row + suc i = omega arith in
          subst (λ r. Has (rows_hull xs ys (row + 1) (row_hull x y 0 row hull)) column r) down has)
    ]

in_damage : (hull : Option Hull) (c r : ℕ) → Has hull c r → HoldsCell (damage_in hull) c r
in_damage None c r has = absurd has
in_damage (Some h) c r has =
    record {
      left = has.left;
      right = let k = has.left in let l = has.right in omega arith;
      top = has.top;
      bottom = let k = has.top in let l = has.bottom in omega arith;
    }

-- ---- a rectangle that holds a hull

abbrev Inside : Damage → Option Hull → Type 0
Inside d None = Unit {0}
Inside d (Some h) = (d.left ≤ h.left) × (h.right ≤ d.left + d.columns) × (d.top ≤ h.top) × (h.bottom ≤ d.top + d.rows)

inside_grown : (d : Damage) (hull : Option Hull) (column row : ℕ) → HoldsCell d column row → Inside d hull → Inside d (Some (grown hull column row))
inside_grown d None column row holds is =
    let l = holds.left in let r = holds.right in let t = holds.top in let b = holds.bottom in (omega arith, omega arith, omega arith, omega arith)
inside_grown d (Some h) column row holds is =
    let l = holds.left in let r = holds.right in let t = holds.top in let b = holds.bottom in
    let l2 = is.0 in let r2 = is.1 in let t2 = is.2 in let b2 = is.3 in (omega arith, omega arith, omega arith, omega arith)

inside_where : (d : Damage) (test : Bool) (x y : Cell) (hull : Option Hull) (column row : ℕ) → differs x y ≡ test
    → ((Some x ≡ Some y → ⊥) → HoldsCell d column row) → Inside d hull → Inside d (grown_where test hull column row)
inside_where d false x y hull column row is holds inside = inside
inside_where d true x y hull column row is holds inside =
    inside_grown d hull column row (holds (λ e. let alike : x ≡ y = cc in apart x y is alike)) inside

row_inside : (d : Damage) (xs ys : List Cell) (column row : ℕ) (hull : Option Hull)
    → ((i : ℕ) → (slice_get xs i ≡ slice_get ys i → ⊥) → HoldsCell d (column + i) row) → Inside d hull → Inside d (row_hull xs ys column row hull)
row_inside d [] ys column row hull holds inside = inside
row_inside d (x ∷ xs) [] column row hull holds inside = inside
row_inside d (x ∷ xs) (y ∷ ys) column row hull holds inside =
    row_inside d xs ys (column + 1) row (grown_where (differs x y) hull column row)
    (λ i other. let at : column + suc i ≡ (column + 1) + i = omega arith in subst (λ c. HoldsCell d c row) at (holds (suc i) other))
    (inside_where d (differs x y) x y hull column row refl
    (λ other. let at : column + 0 ≡ column = omega arith in subst (λ c. HoldsCell d c row) at (holds 0 other)) inside)

rows_inside : (d : Damage) (xs ys : List (List Cell)) (row : ℕ) (hull : Option Hull)
    → ((column i : ℕ) → (cell_in (slice_get xs i) column ≡ cell_in (slice_get ys i) column → ⊥) → HoldsCell d column (row + i))
    → Inside d hull → Inside d (rows_hull xs ys row hull)
rows_inside d [] ys row hull holds inside = inside
rows_inside d (x ∷ xs) [] row hull holds inside = inside
rows_inside d (x ∷ xs) (y ∷ ys) row hull holds inside =
    rows_inside d xs ys (row + 1) (row_hull x y 0 row hull)
    (λ column i other. let down : row + suc i ≡ (row + 1) + i = omega arith in subst (λ r. HoldsCell d column r) down (holds column (suc i) other))
    (row_inside d x y 0 row hull
    (λ i other. let down : row + 0 ≡ row = omega arith in let across : i ≡ 0 + i = omega arith in
    subst (λ c. HoldsCell d c row) across (subst (λ r. HoldsCell d i r) down (holds i 0 other))) inside)

damage_inside : (d : Damage) (hull : Option Hull) (c r : ℕ) → Inside d hull → HoldsCell (damage_in hull) c r → HoldsCell d c r
damage_inside d None c r inside holds = let k = holds.right in absurd (omega arith)
damage_inside d (Some h) c r inside holds =
    let l = holds.left in let ri = holds.right in let t = holds.top in let b = holds.bottom in
    let l2 = inside.0 in let r2 = inside.1 in let t2 = inside.2 in let b2 = inside.3 in
    record { left = omega arith; right = omega arith; top = omega arith; bottom = omega arith }

-- ---- the laws

first_true : (x y : Bool) → (x && y) ≡ true → x ≡ true
first_true true y e = refl
first_true false y e = e

second_true : (x y : Bool) → (x && y) ≡ true → y ≡ true
second_true true y e = e
second_true false y e = absurd (false≢true e)

module _ (a b : CellGrid) (alike : same_size a b ≡ true) where
  same_columns : a.columns ≡ b.columns
  same_columns = eqb-true a.columns b.columns (first_true (a.columns == b.columns) (length a.rows == length b.rows) alike)

  same_rows : length a.rows ≡ length b.rows
  same_rows = eqb-true (length a.rows) (length b.rows) (second_true (a.columns == b.columns) (length a.rows == length b.rows) alike)

  damage-is : damage_of a b ≡ damage_in (rows_hull a.rows b.rows 0 None)
  damage-is = ap (λ t. if t then damage_in (rows_hull a.rows b.rows 0 None) else whole b) alike

  pub kept_or_in_hull : IsWhole a → IsWhole b → (column row : ℕ) → (cell_at a column row ≡ cell_at b column row) ⊎ HoldsCell (damage_of a b) column row
  kept_or_in_hull first second column row =
      let other : AllHave a.columns b.rows = subst (λ n. AllHave n b.rows) (sym same_columns) second in
      elim (rows_met a.columns a.rows b.rows column row 0 None first other same_rows) [
        | inl kept ↦ inl kept
        | inr has ↦ inr (let down : 0 + row ≡ row = omega arith in
            let here : Has (rows_hull a.rows b.rows 0 None) column row = subst (λ r. Has (rows_hull a.rows b.rows 0 None) column r) down has in
            subst (λ d. HoldsCell d column row) (sym damage-is) (in_damage (rows_hull a.rows b.rows 0 None) column row here))
      ]

  pub least_hull : (d : Damage) → HoldsChanges a b d → (column row : ℕ) → HoldsCell (damage_of a b) column row → HoldsCell d column row
  least_hull d holds column row here =
      damage_inside d (rows_hull a.rows b.rows 0 None) column row
      (rows_inside d a.rows b.rows 0 None
      (λ c i other. let down : i ≡ 0 + i = omega arith in subst (λ r. HoldsCell d c r) down (holds c i other)) tt)
      (subst (λ e. HoldsCell e column row) damage-is here)
