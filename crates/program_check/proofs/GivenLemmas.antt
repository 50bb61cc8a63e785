-- Tables of places: what stands at each place below a count.
use Rattle.std.proofs.Common.{◌≡◌, ℕ, zero, suc, ◌+◌, ◌-◌, ◌<◌, ◌≤◌, ◌==◌, arith, drop-cons, length, get_or, drop, append_assoc, List, [], ◌∷◌, ◌++◌, map, Bool, true, false, if◌then◌else◌, Option, Some, None, Result, Vec, Global, Ok, Err, option_map, ap, ap₂, refl, sym, ◌∙◌}
use Rattle.std.proofs.lemmas.Grind.{common_steps}
use Rattle.std.proofs.lemmas.Bool.Decides.{nat_tests}
use Rattle.std.specs.Prelude.{◌||◌, set}
use Rattle.std.proofs.Math.ListN.{replicate}
use Rattle.std.proofs.lemmas.List.{drop_all}
use Rattle.std.proofs.lemmas.List.FromFn.{map-range_with_len_more}
use Rattle.std.specs.List.{list_any, range_with_len}
use Rattle.expr_check.specs.declared.fault.CheckCode.TheVariants.{OtherDeclared}
use Rattle.expr_check.specs.declared.fault.CheckStop.{CheckStop}
use Rattle.expr_check.specs.declared.fault.CheckStop.TheVariants as stop
use Rattle.expr_check.specs.Check.{Check, and_then, given, in_order, Answers}
use Rattle.program_check.specs.Place.{or_wrong}
use Rattle.program_check.specs.Judged.{given_at, arranged}
use Rattle.program_check.proofs.LoopLemmas.{map_map}

-- ---- a write at a place

here : (q i : ℕ) → q ≡ i → (q == i) ≡ true
here q i e = grind (arith, nat_tests, common_steps)

elsewhere : (q i : ℕ) → q < i → (q == i) ≡ false
elsewhere q i h = grind (arith, nat_tests, common_steps)

later : (q i : ℕ) → i < q → (q == i) ≡ false
later q i h = grind (arith, nat_tests, common_steps)

-- the values of a function, but another one at a place
abbrev pub but_at : {X : Type 0} → ℕ → X → (ℕ → X) → ℕ → X
but_at q x f i = if q == i then x else f i

map-above : {X : Type 0} (f : ℕ → X) (from count q : ℕ) (x : X) → q < from → map (but_at q x f) (range_with_len from count) ≡ map f (range_with_len from count)
map-above f from zero q x h = refl
map-above f from (suc count) q x h =
    ap₂ (λ y ys. y ∷ ys) (ap (λ b. if b then x else f from) (elsewhere q from h)) (map-above f (from + 1) count q x (omega arith))

set-from : {X : Type 0} (f : ℕ → X) (from count p q : ℕ) (x : X) → q ≡ from + p
    → set (map f (range_with_len from count)) p x ≡ map (but_at q x f) (range_with_len from count)
set-from f from zero p q x e = refl
set-from f from (suc count) zero q x e =
    ap₂ (λ y ys. y ∷ ys) (ap (λ b. if b then x else f from) (sym (here q from (omega arith)))) (sym (map-above f (from + 1) count q x (omega arith)))
set-from f from (suc count) (suc p) q x e =
    ap₂ (λ y ys. y ∷ ys) (ap (λ b. if b then x else f from) (sym (later q from (omega arith)))) (set-from f (from + 1) count p q x (omega arith))

-- a write into the table of a function's values below a count
pub set-below : {X : Type 0} (f : ℕ → X) (count p : ℕ) (x : X) → set (map f (range_with_len 0 count)) p x ≡ map (but_at p x f) (range_with_len 0 count)
set-below f count p x = set-from f 0 count p p x (omega arith)

-- ---- marks

map-same : {A B : Type 0} (f g : A → B) → ((x : A) → f x ≡ g x) → (xs : List A) → map f xs ≡ map g xs
map-same f g h [] = refl
map-same f g h (x ∷ xs) = ap₂ (λ y ys. y ∷ ys) (h x) (map-same f g h xs)

or_else : (a b : Bool) → (if a then true else b) ≡ (a || b)
or_else true b = refl
or_else false b = refl

-- one more place is marked
pub marked-more : (count p : ℕ) (places : List ℕ) → set (map (λ place. list_any (λ given. given == place) places) (range_with_len 0 count)) p true
    ≡ map (λ place. list_any (λ given. given == place) (p ∷ places)) (range_with_len 0 count)
marked-more count p places =
    set-below (λ place. list_any (λ given. given == place) places) count p true
    ∙ map-same _ _ (λ place. or_else (p == place) (list_any (λ given. given == place) places)) (range_with_len 0 count)

-- ---- what is given at each place

-- the same of images
abbrev pub images : {A B : Type 0} → (A → B) → List (ℕ × A) → List (ℕ × B)
images f gs = map (λ g. (g.0, f g.1)) gs

given_at-images : {A B : Type 0} (f : A → B) (gs : List (ℕ × A)) (place : ℕ) → given_at (images f gs) place ≡ option_map f (given_at gs place)
given_at-images f [] place = refl
given_at-images f (g ∷ gs) place =
    elim (g.0 == place)
    as (λ b. (if b then Some (f g.1) else given_at (images f gs) place) ≡ option_map f (if b then Some g.1 else given_at gs place)) [
      | true ↦ refl
      | false ↦ given_at-images f gs place
    ]

in_front : {A B : Type 0} (f : A → B) (x : A) (check : Check (List A)) → given (λ ys. f x ∷ ys) (given (map f) check) ≡ given (map f) (given (λ xs. x ∷ xs) check)
in_front f x (Ok xs) = refl
in_front f x (Err code) = refl

one_image : {A B : Type 0} (f : A → B) (o : Option A) (rest : Check (List A))
    → and_then (or_wrong OtherDeclared (option_map f o)) (λ y. given (λ ys. y ∷ ys) (given (map f) rest))
    ≡ given (map f) (and_then (or_wrong OtherDeclared o) (λ x. given (λ xs. x ∷ xs) rest))
one_image f None rest = refl
one_image f (Some x) rest = in_front f x rest

abbrev taken : {A : Type 0} → List (ℕ × A) → List ℕ → Check (List A)
taken gs places = in_order (map (λ place. or_wrong OtherDeclared (given_at gs place)) places)

taken-images : {A B : Type 0} (f : A → B) (gs : List (ℕ × A)) (places : List ℕ) → taken (images f gs) places ≡ given (map f) (taken gs places)
taken-images f gs [] = refl
taken-images f gs (p ∷ places) =
    ap (λ o. and_then (or_wrong OtherDeclared o) (λ y. given (λ ys. y ∷ ys) (taken (images f gs) places))) (given_at-images f gs p)
    ∙ ap (λ rest. and_then (or_wrong OtherDeclared (option_map f (given_at gs p))) (λ y. given (λ ys. y ∷ ys) rest)) (taken-images f gs places)
    ∙ one_image f (given_at gs p) (taken gs places)

pub Answers-images : {X A : Type 0} (f : X → A) (result : Result (Vec X Global) CheckStop) (count : ℕ) (gs : List (ℕ × X))
    → Answers (λ xs. xs.items) result (arranged count gs) → Answers (λ xs. map f xs.items) result (arranged count (images f gs))
Answers-images f (Ok xs) count gs e = taken-images f gs (range_with_len 0 count) ∙ ap (given (map f)) e
Answers-images f (Err (stop.Bad code)) count gs e = taken-images f gs (range_with_len 0 count) ∙ ap (given (map f)) e
Answers-images f (Err stop.OutOfMemory) count gs e = tt

-- what was looked up in a table, and what is arranged
pub arranged-table : {A : Type 0} (count : ℕ) (gs : List (ℕ × A)) → arranged count gs ≡ in_order (map (or_wrong OtherDeclared) (map (given_at gs) (range_with_len 0 count)))
arranged-table count gs = ap in_order (sym (map_map (or_wrong OtherDeclared) (given_at gs) (range_with_len 0 count)))

-- a place more of a table with nothing
pub blank-more : {A : Type 0} (i : ℕ) (before later : List (Option A)) → before ≡ map (λ place. None) (range_with_len 0 i) → later ≡ before ++ None ∷ []
    → later ≡ map (λ place. None) (range_with_len 0 (i + 1))
blank-more i before later b l =
    l ∙ ap (λ os. os ++ None ∷ []) b ∙ sym (map-range_with_len_more (λ place. None) 0 i i (omega arith))

-- what is left of all that is given, and the table of the rest
pub record PlacedSoFar {A : Type 0} (count : ℕ) (all left : List (ℕ × A)) (table : List (Option A)) : Type 0 where
  pub rest : List (ℕ × A)
  pub split : all ≡ left ++ rest
  pub placed : table ≡ map (given_at rest) (range_with_len 0 count)

-- the last of what is left is written into the table
pub placed-more : {A : Type 0} (count : ℕ) (all left before : List (ℕ × A)) (g : ℕ × A) (table written : List (Option A)) → PlacedSoFar count all left table
    → left ≡ before ++ g ∷ [] → written ≡ set table g.0 (Some g.1) → PlacedSoFar count all before written
placed-more count all left before g table written p l w = record {
  rest = g ∷ p.rest;
  split = p.split ∙ ap (λ gs. gs ++ p.rest) l ∙ append_assoc before (g ∷ []) p.rest;
  placed = w ∙ ap (λ os. set os g.0 (Some g.1)) p.placed ∙ set-below (given_at p.rest) count g.0 (Some g.1);
}

-- ---- marks, place by place from the last on

-- what is marked by the places that were looked at
pub record MarkedSoFar (count : ℕ) (places : List ℕ) (left : ℕ) (marks : List Bool) : Type 0 where
  pub within : left ≤ length places
  pub marked : marks ≡ map (λ place. list_any (λ given. given == place) (drop left places)) (range_with_len 0 count)

none_marked : (from count : ℕ) → replicate count false ≡ map (λ place. false) (range_with_len from count)
none_marked from zero = refl
none_marked from (suc count) = ap (λ bs. false ∷ bs) (none_marked (from + 1) count)

pub marked-start : (count : ℕ) (places : List ℕ) (marks : List Bool) → marks ≡ replicate count false → MarkedSoFar count places (length places) marks
marked-start count places marks e = record {
  within = omega arith;
  marked = e ∙ none_marked 0 count
      ∙ ap (λ ps. map (λ place. list_any (λ given. given == place) ps) (range_with_len 0 count)) (sym (drop_all (length places) places (omega arith)));
}

pub marked-step : (count : ℕ) (places : List ℕ) (left : ℕ) (marks written : List Bool) → MarkedSoFar count places left marks → 0 < left
    → written ≡ set marks (get_or places (left - 1) 0) true → MarkedSoFar count places (left - 1) written
marked-step count places left marks written m h w =
    let within : left ≤ length places = m.within in
    let below : left - 1 < length places = omega arith in
    let again : left ≡ suc (left - 1) = omega arith in
    let split : drop (left - 1) places ≡ get_or places (left - 1) 0 ∷ drop left places =
    drop-cons places (left - 1) 0 below ∙ ap (λ n. get_or places (left - 1) 0 ∷ drop n places) (sym again) in
    record {
      within = omega arith;
      marked = w ∙ ap (λ bs. set bs (get_or places (left - 1) 0) true) m.marked ∙ marked-more count (get_or places (left - 1) 0) (drop left places)
          ∙ ap (λ ps. map (λ place. list_any (λ given. given == place) ps) (range_with_len 0 count)) (sym split);
    }
