-- Lists of numbered handles whose numbers rise.
use Rattle.std.proofs.Common.{◌≡◌, ◌≢◌, ◌↔◌, ℕ, zero, suc, ◌+◌, ◌≤◌, ◌<◌, Bool, true, false, cond, eqb, List, [], ◌∷◌, ◌++◌, length, get_or, Option, Some, None, Ok, Err, refl, sym, ap, ◌∙◌, inl, inr, arith}
use Rattle.std.specs.List.{filter}
use Rattle.std.specs.List.Sorted.{IsBinarySearchResult, IsNonDecreasingBy}
use Rattle.std.specs.Ordering.{nat_cmp, ordering_index}
use Rattle.std.proofs.lemmas.Bool.{cases_Bool, cases_lt, eq-eqb, ne_eqb, eqb-true}
use Rattle.std.proofs.lemmas.Bool.Decides.{nat_tests}
use Rattle.std.proofs.lemmas.Cmp.{ranked}
use Rattle.std.proofs.lemmas.Map.Entries.{option_filter}
use Rattle.fx_handles.specs.declared.Handle.{Handle}
use Rattle.element_tree.specs.Index.{handle_of, Rises}
use Rattle.element_tree.specs.declared.numbers.Numbered.{Numbered}

rises-lower : (low less high : ℕ) (xs : List Numbered) → less ≤ low → Rises low high xs → Rises less high xs
rises-lower low less high [] l r = omega arith
rises-lower low less high (x ∷ xs) l r = (omega (arith, r.0), r.1)

rises_within : (low high : ℕ) (xs : List Numbered) → Rises low high xs → low ≤ high
rises_within low high [] r = r
rises_within low high (x ∷ xs) r = omega (arith, r.0, rises_within (x.number + 1) high xs r.1)

-- an element of the list
at_least : (low high : ℕ) (xs : List Numbered) (k : ℕ) (d : Numbered) → Rises low high xs → k < length xs → low ≤ (get_or xs k d).number
at_least low high [] k d r within = absurd (omega arith)
at_least low high (x ∷ xs) zero d r within = r.0
at_least low high (x ∷ xs) (suc k) d r within = omega (arith, r.0, at_least (x.number + 1) high xs k d r.1 (omega arith))

rises-at : (low high : ℕ) (xs : List Numbered) (i j : ℕ) (d : Numbered) → Rises low high xs → i ≤ j → j < length xs → (get_or xs i d).number ≤ (get_or xs j d).number
rises-at low high [] i j d r up within = absurd (omega arith)
rises-at low high (x ∷ xs) zero zero d r up within = omega arith
rises-at low high (x ∷ xs) zero (suc j) d r up within = omega (arith, at_least (x.number + 1) high xs j d r.1 (omega arith))
rises-at low high (x ∷ xs) (suc i) zero d r up within = absurd (omega arith)
rises-at low high (x ∷ xs) (suc i) (suc j) d r up within = rises-at (x.number + 1) high xs i j d r.1 (omega arith) (omega arith)

handle_at : (low high : ℕ) (xs : List Numbered) (n k : ℕ) (d : Numbered) → Rises low high xs → k < length xs → (get_or xs k d).number ≡ n → handle_of xs n ≡ Some (get_or xs k d).at
handle_at low high [] n k d r within is = absurd (omega arith)
handle_at low high (x ∷ xs) n zero d r within is = ap (λ b. cond b (Some x.at) (handle_of xs n)) (eq-eqb x.number n is)
handle_at low high (x ∷ xs) n (suc k) d r within is =
    let apart : x.number ≢ n = λ e. absurd (omega (arith, e, is, at_least (x.number + 1) high xs k d r.1 (omega arith))) in
    ap (λ b. cond b (Some x.at) (handle_of xs n)) (ne_eqb x.number n apart) ∙ handle_at (x.number + 1) high xs n k d r.1 (omega arith) is

no_handle : (xs : List Numbered) (n : ℕ) → ((k : ℕ) (d : Numbered) → k < length xs → (get_or xs k d).number ≢ n) → handle_of xs n ≡ None
no_handle [] n apart = refl
no_handle (x ∷ xs) n apart =
    ap (λ b. cond b (Some x.at) (handle_of xs n)) (ne_eqb x.number n (apart 0 x (omega arith))) ∙ no_handle xs n (λ k d within. apart (suc k) d (omega arith))

no_handle_below : (low high : ℕ) (xs : List Numbered) (n : ℕ) → Rises low high xs → n < low → handle_of xs n ≡ None
no_handle_below low high xs n r below = no_handle xs n (λ k d within is. absurd (omega (arith, is, at_least low high xs k d r within)))

-- what a binary search finds
module _ (low high : ℕ) (xs : List Numbered) (n : ℕ) (r : Rises low high xs) where
  search_rises : IsNonDecreasingBy (λ (y : Numbered). ordering_index (nat_cmp y.number n)) xs
  search_rises i j d up within = let few = rises-at low high xs i j d r up within in grind (arith, nat_tests)

  pub searched_ok : (place : ℕ) (d : Numbered) → place < length xs → IsBinarySearchResult (λ (y : Numbered). nat_cmp y.number n) xs (Ok place) → handle_of xs n ≡ Some (get_or xs place d).at
  searched_ok place d within found = handle_at low high xs n place d r within (ranked _ n _ (sym (found d)))

  pub searched_err : (place : ℕ) → IsBinarySearchResult (λ (y : Numbered). nat_cmp y.number n) xs (Err place) → handle_of xs n ≡ None
  searched_err place parted = no_handle xs n apart
    where
      apart : (k : ℕ) (d : Numbered) → k < length xs → (get_or xs k d).number ≢ n
      apart k d within is = elim (cases_lt k place) [
        | inl below ↦ let less : (get_or xs k d).number < n = ranked _ n _ (sym ((parted search_rises).0 k d (omega arith) below)) in absurd (omega (arith, less, is))
        | inr above ↦ let more : n < (get_or xs k d).number = ranked _ n _ (sym ((parted search_rises).1 k d above within)) in absurd (omega (arith, more, is))
      ]

-- one more at the end
pub rises-pushed : (low high : ℕ) (xs : List Numbered) (h : Handle) → Rises low high xs → Rises low (high + 1) (xs ++ (record { number = high; at = h }) ∷ [])
rises-pushed low high [] h r = (r, omega arith)
rises-pushed low high (x ∷ xs) h r = (r.0, rises-pushed (x.number + 1) high xs h r.1)

pub handle-pushed : (low high : ℕ) (xs : List Numbered) (h : Handle) (n : ℕ) → Rises low high xs → handle_of (xs ++ (record { number = high; at = h }) ∷ []) n ≡ cond (eqb high n) (Some h) (handle_of xs n)
handle-pushed low high [] h n r = refl
handle-pushed low high (x ∷ xs) h n r = elim (cases_Bool (eqb x.number n)) [
  | inl equal ↦
      let apart : high ≢ n = λ e. absurd (omega (arith, e, eqb-true x.number n equal, rises_within (x.number + 1) high xs r.1)) in
      ap (λ b. cond b (Some x.at) (handle_of (xs ++ (record { number = high; at = h }) ∷ []) n)) equal
      ∙ sym (ap (λ b. cond b (Some h) (cond (eqb x.number n) (Some x.at) (handle_of xs n))) (ne_eqb high n apart) ∙ ap (λ b. cond b (Some x.at) (handle_of xs n)) equal)
  | inr other ↦
      ap (λ b. cond b (Some x.at) (handle_of (xs ++ (record { number = high; at = h }) ∷ []) n)) other
      ∙ handle-pushed (x.number + 1) high xs h n r.1
      ∙ sym (ap (λ b. cond (eqb high n) (Some h) (cond b (Some x.at) (handle_of xs n))) other)
]

-- an option that is kept where its value passes
pub filtered : (p : Handle → Bool) (o after : Option Handle) (h : Handle) → after ≡ option_filter p o → (after ≡ Some h) ↔ ((o ≡ Some h) × (p h ≡ true))
filtered p None after h e = (λ is. absurd (let both = sym e ∙ is in cc), λ both. absurd (let none = both.0 in cc))
filtered p (Some k) after h e = by_test (p k) refl
  where
    by_test : (b : Bool) → p k ≡ b → (after ≡ Some h) ↔ ((Some k ≡ Some h) × (p h ≡ true))
    by_test true passes =
        let is_k : after ≡ Some k = e ∙ ap (λ b. cond b (Some k) None) passes in (
          λ is. let one : Some k ≡ Some h = sym is_k ∙ is in let same_handle : k ≡ h = (cc) in (one, ap p (sym same_handle) ∙ passes),
          λ both. is_k ∙ both.0,
        )
    by_test false fails =
        let is_none : after ≡ None = e ∙ ap (λ b. cond b (Some k) None) fails in (
          λ is. absurd (let both = sym is_none ∙ is in cc),
          λ both. absurd (let same_handle : k ≡ h = (cc (both.0)) in let passes : p k ≡ true = ap p same_handle ∙ both.1 in let two : false ≡ true = sym fails ∙ passes in cc),
        )

-- those that pass a test
module _ (p : Handle → Bool) where
  pub rises-filter : (low high : ℕ) (xs : List Numbered) → Rises low high xs → Rises low high (filter (λ x. p x.at) xs)
  rises-filter low high [] r = r
  rises-filter low high (x ∷ xs) r = by_test (p x.at) (rises-filter (x.number + 1) high xs r.1)
    where
      by_test : (b : Bool) → Rises (x.number + 1) high (filter (λ y. p y.at) xs) → Rises low high (cond b (x ∷ filter (λ y. p y.at) xs) (filter (λ y. p y.at) xs))
      by_test true later = (r.0, later)
      by_test false later = rises-lower (x.number + 1) low high (filter (λ y. p y.at) xs) (omega (arith, r.0)) later

  pub handle-filter : (low high : ℕ) (xs : List Numbered) (n : ℕ) → Rises low high xs → handle_of (filter (λ x. p x.at) xs) n ≡ option_filter p (handle_of xs n)
  handle-filter low high [] n r = refl
  handle-filter low high (x ∷ xs) n r = by_tests (eqb x.number n) (p x.at) refl refl (handle-filter (x.number + 1) high xs n r.1)
    where
      kept : List Numbered
      kept = filter (λ y. p y.at) xs

      gone : eqb x.number n ≡ true → handle_of xs n ≡ None
      gone equal = no_handle_below (x.number + 1) high xs n r.1 (omega (arith, eqb-true x.number n equal))

      by_tests : (a b : Bool) → eqb x.number n ≡ a → p x.at ≡ b → handle_of kept n ≡ option_filter p (handle_of xs n)
          → handle_of (cond (p x.at) (x ∷ kept) kept) n ≡ option_filter p (cond (eqb x.number n) (Some x.at) (handle_of xs n))
      by_tests true true equal passes later =
          ap (λ c. handle_of (cond c (x ∷ kept) kept) n) passes
          ∙ ap (λ c. cond c (Some x.at) (handle_of kept n)) equal
          ∙ sym (ap (λ c. option_filter p (cond c (Some x.at) (handle_of xs n))) equal ∙ ap (λ c. cond c (Some x.at) None) passes)
      by_tests true false equal fails later =
          ap (λ c. handle_of (cond c (x ∷ kept) kept) n) fails
          ∙ later
          ∙ ap (option_filter p) (gone equal)
          ∙ sym (ap (λ c. option_filter p (cond c (Some x.at) (handle_of xs n))) equal ∙ ap (λ c. cond c (Some x.at) None) fails)
      by_tests false true other passes later =
          ap (λ c. handle_of (cond c (x ∷ kept) kept) n) passes
          ∙ ap (λ c. cond c (Some x.at) (handle_of kept n)) other
          ∙ later
          ∙ sym (ap (λ c. option_filter p (cond c (Some x.at) (handle_of xs n))) other)
      by_tests false false other fails later =
          ap (λ c. handle_of (cond c (x ∷ kept) kept) n) fails
          ∙ later
          ∙ sym (ap (λ c. option_filter p (cond c (Some x.at) (handle_of xs n))) other)
