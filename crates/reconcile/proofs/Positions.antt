-- The first place of a part of a list at which a test passes.
use Rattle.std.proofs.Common.{◌≡◌, ℕ, zero, suc, ◌+◌, ◌-◌, ◌<◌, ◌≤◌, Bool, true, false, Some, None, List, ◌∷◌, [], length, get_or, drop, inl, inr, refl, ◌∙◌, ap, arith, length-drop, length-take, get_or-drop, get_or-take}
use Rattle.std.specs.List.{position_from, slice_range}
use Rattle.std.proofs.lemmas.Bool.{cases_lt}

module _ {X : Type 0} (t : X → Bool) where
  pub position_from_none : (i : ℕ) (xs : List X) (d : X) → ((k : ℕ) → k < length xs → t (get_or xs k d) ≡ false) → position_from t i xs ≡ None
  position_from_none i [] d h = refl
  position_from_none i (x ∷ xs) d h =
      let here : t x ≡ false = h 0 (omega arith) in
      let rest = position_from_none (i + 1) xs d (λ k b. h (suc k) (omega arith)) in
      rw here rest

  pub position_from_at : (i : ℕ) (xs : List X) (k : ℕ) (d : X) → k < length xs → t (get_or xs k d) ≡ true → ((h : ℕ) → h < k → t (get_or xs h d) ≡ false)
      → position_from t i xs ≡ Some (i + k)
  position_from_at i [] k d b e h = absurd (omega arith)
  position_from_at i (x ∷ xs) zero d b e h = rw e (ap Some (omega arith))
  position_from_at i (x ∷ xs) (suc k) d b e h =
      let here : t x ≡ false = h 0 (omega arith) in
      let rest = position_from_at (i + 1) xs k d (omega arith) e (λ n m. h (suc n) (omega arith)) in
      rw here (rest ∙ ap Some (omega arith))

  -- one place more that fails
  pub none_more : (xs : List X) (from j : ℕ) (d : X) → ((k : ℕ) → from ≤ k → k < j → t (get_or xs k d) ≡ false) → t (get_or xs j d) ≡ false
      → (k : ℕ) → from ≤ k → k < j + 1 → t (get_or xs k d) ≡ false
  none_more xs from j d before here k low high =
      elim (cases_lt k j) [ inl less ↦ before k low less | inr not_less ↦ let e : k ≡ j = omega arith in ap (λ n. t (get_or xs n d)) e ∙ here ]

  module _ (xs : List X) (from to : ℕ) (d : X) (within : to ≤ length xs) where
    part_length : from ≤ to → length (slice_range xs from to) ≡ to - from
    part_length le = length-take (to - from) (drop from xs) ∙ omega (arith, length-drop from xs)

    part_at : (k : ℕ) → k < to - from → get_or (slice_range xs from to) k d ≡ get_or xs (from + k) d
    part_at k b = get_or-take (to - from) (drop from xs) k d b ∙ get_or-drop from xs k d

    -- no place from one up to another passes
    pub none_between : from ≤ to → ((k : ℕ) → from ≤ k → k < to → t (get_or xs k d) ≡ false) → position_from t from (slice_range xs from to) ≡ None
    none_between le h =
        let n = part_length le in
        position_from_none from (slice_range xs from to) d (λ k b. ap t (part_at k (omega arith)) ∙ h (from + k) (omega arith) (omega arith))

    -- one passes, and none before it
    pub first_between : (j : ℕ) → from ≤ j → j < to → t (get_or xs j d) ≡ true → ((k : ℕ) → from ≤ k → k < j → t (get_or xs k d) ≡ false)
        → position_from t from (slice_range xs from to) ≡ Some j
    first_between j low high e h =
        let n = part_length (omega arith) in
        let back : from + (j - from) ≡ j = omega arith in
        position_from_at from (slice_range xs from to) (j - from) d (omega arith)
        (ap t (part_at (j - from) (omega arith)) ∙ ap (λ k. t (get_or xs k d)) back ∙ e)
        (λ k b. ap t (part_at k (omega arith)) ∙ h (from + k) (omega arith) (omega arith))
        ∙ ap Some back
