-- What passes in the front that two lists have in common, and at a first place.
use Rattle.std.proofs.Common.{◌≡◌, ℕ, zero, suc, ◌+◌, ◌-◌, ◌<◌, ◌≤◌, Bool, true, false, cond, Some, List, ◌∷◌, [], length, get_or, map, drop, refl, sym, ◌∙◌, ap, arith, length-drop, length-take, get_or-drop, get_or-take}
use Rattle.std.specs.List.{common_prefix_len, position_from, range_with_len, slice_range}

module _ {X Y : Type 0} (e : X → Y → Bool) where
  front_step : (x : X) (xs : List X) (y : Y) (ys : List Y) (c : X) (d : Y) (b : Bool) → e x y ≡ b
      → ((k : ℕ) → k < common_prefix_len e xs ys → e (get_or xs k c) (get_or ys k d) ≡ true)
      → (k : ℕ) → k < cond b (1 + common_prefix_len e xs ys) 0 → e (get_or (x ∷ xs) k c) (get_or (y ∷ ys) k d) ≡ true
  front_step x xs y ys c d false t rest k h = absurd (omega arith)
  front_step x xs y ys c d true t rest zero h = t
  front_step x xs y ys c d true t rest (suc k) h = rest k (omega arith)

  -- each pair of the common front passes
  pub common_passes : (xs : List X) (ys : List Y) (c : X) (d : Y) (k : ℕ) → k < common_prefix_len e xs ys → e (get_or xs k c) (get_or ys k d) ≡ true
  common_passes [] ys c d k h = absurd (omega arith)
  common_passes (x ∷ xs) [] c d k h = absurd (omega arith)
  common_passes (x ∷ xs) (y ∷ ys) c d k h = front_step x xs y ys c d (e x y) refl (common_passes xs ys c d) k h

  -- and no front that passes is longer
  pub common_greatest : (xs : List X) (ys : List Y) (n : ℕ) (c : X) (d : Y) → n ≤ length xs → n ≤ length ys
      → ((k : ℕ) → k < n → e (get_or xs k c) (get_or ys k d) ≡ true) → n ≤ common_prefix_len e xs ys
  common_greatest xs ys zero c d a b h = omega arith
  common_greatest [] ys (suc n) c d a b h = absurd (omega arith)
  common_greatest (x ∷ xs) [] (suc n) c d a b h = absurd (omega arith)
  common_greatest (x ∷ xs) (y ∷ ys) (suc n) c d a b h =
      let t : e x y ≡ true = h 0 (omega arith) in
      let rest = common_greatest xs ys n c d (omega arith) (omega arith) (λ k l. h (suc k) (omega arith)) in
      rw t (omega arith)

module _ {X : Type 0} (t : X → Bool) where
  position_step : (x : X) (xs : List X) (i j : ℕ) (d : X) (b : Bool) → t x ≡ b
      → (position_from t (i + 1) xs ≡ Some j → (i + 1 ≤ j) × (j < (i + 1) + length xs) × (t (get_or xs (j - (i + 1)) d) ≡ true))
      → cond b (Some i) (position_from t (i + 1) xs) ≡ Some j → (i ≤ j) × (j < i + length (x ∷ xs)) × (t (get_or (x ∷ xs) (j - i) d) ≡ true)
  position_step x xs i j d true p rest e =
      let same : i ≡ j = cc in
      let none_before : j - i ≡ 0 = omega arith in
      (omega arith, omega arith, rw none_before p)
  position_step x xs i j d false p rest e =
      let h = rest e in
      let low : i + 1 ≤ j = h.0 in
      let high : j < (i + 1) + length xs = h.1 in
      let next : j - i ≡ suc (j - (i + 1)) = omega arith in
      (omega arith, omega arith, rw next h.2)

  -- a first place passes, and stands in the list
  pub position_passes : (i : ℕ) (xs : List X) (j : ℕ) (d : X) → position_from t i xs ≡ Some j → (i ≤ j) × (j < i + length xs) × (t (get_or xs (j - i) d) ≡ true)
  position_passes i [] j d e = cc
  position_passes i (x ∷ xs) j d e = position_step x xs i j d (t x) refl (position_passes (i + 1) xs j d) e

  -- the same of a part of a list
  pub part_passes : (xs : List X) (from to j : ℕ) (d : X) → to ≤ length xs → from ≤ to → position_from t from (slice_range xs from to) ≡ Some j
      → (from ≤ j) × (j < to) × (t (get_or xs j d) ≡ true)
  part_passes xs from to j d within le e =
      let h = position_passes from (slice_range xs from to) j d e in
      let n : length (slice_range xs from to) ≡ to - from = length-take (to - from) (drop from xs) ∙ omega (arith, length-drop from xs) in
      let low : from ≤ j = h.0 in
      let high : j < from + length (slice_range xs from to) = h.1 in
      let back : from + (j - from) ≡ j = omega arith in
      let at : get_or (slice_range xs from to) (j - from) d ≡ get_or xs j d =
      get_or-take (to - from) (drop from xs) (j - from) d (omega arith) ∙ get_or-drop from xs (j - from) d ∙ ap (λ k. get_or xs k d) back
      in (low, omega arith, sym (ap t at) ∙ h.2)

-- functions that agree at each place of a range make one list of it
pub map-range_same : {X : Type 0} (f g : ℕ → X) (a n : ℕ) → ((i : ℕ) → a ≤ i → i < a + n → f i ≡ g i) → map f (range_with_len a n) ≡ map g (range_with_len a n)
map-range_same f g a zero h = refl
map-range_same f g a (suc n) h =
    let e : f a ≡ g a = h a (omega arith) (omega arith) in
    let rest = map-range_same f g (a + 1) n (λ i l b. h i (omega arith) (omega arith)) in
    cc
