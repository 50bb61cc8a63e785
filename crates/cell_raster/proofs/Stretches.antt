-- Lists of which a stretch is changed, place by place.
use Rattle.std.proofs.Common.{◌≡◌, ℕ, zero, suc, ◌+◌, ◌<◌, ◌≤◌, arith, true, false, List, [], ◌∷◌, length, map, set, get_or, if◌then◌else◌, refl, sym, ap, ◌∙◌}
use Rattle.std.proofs.lemmas.Bool.Decides.{nat_tests}
use Rattle.std.proofs.lemmas.Grind.{common_steps}
use Rattle.std.specs.List.{range_with_len}
use Rattle.cell_raster.specs.Stretch.{lies_in, within, changed}

pub lies_yes : (from to k : ℕ) → from ≤ k → k < to → lies_in from to k ≡ true
lies_yes from to k low high = grind (arith, nat_tests)

pub lies_early : (from to k : ℕ) → k < from → lies_in from to k ≡ false
lies_early from to k early = grind (arith, nat_tests)

pub lies_late : (from to k : ℕ) → to ≤ k → lies_in from to k ≡ false
lies_late from to k late = grind (arith, nat_tests)

pub lies_from : (from to k : ℕ) → lies_in from to k ≡ true → from ≤ k
lies_from from to k e = grind (arith, nat_tests)

pub lies_to : (from to k : ℕ) → lies_in from to k ≡ true → k < to
lies_to from to k e = grind (arith, nat_tests)

lies_nowhere : (from to k : ℕ) → to ≤ from → lies_in from to k ≡ false
lies_nowhere from to k none = grind (arith, nat_tests)

lies_alike : (from to to' k : ℕ) → k < to → k < to' → lies_in from to k ≡ lies_in from to' k
lies_alike from to to' k a b = grind (arith, nat_tests)

pub longer : {A : Type 0} (x : A) (xs : List A) → length (x ∷ xs) ≡ length xs + 1
longer x xs = grind (arith, common_steps)

module _ {A : Type 0} where
  pub changed_same : (f g : ℕ → A → A) (k : ℕ) (xs : List A) → ((i : ℕ) (x : A) → k ≤ i → i < k + length xs → f i x ≡ g i x)
      → changed f k xs ≡ changed g k xs
  changed_same f g k [] same = refl
  changed_same f g k (x ∷ xs) same =
      let more = longer x xs in
      let head : f k x ≡ g k x = same k x (omega arith) (omega arith) in
      let tail : changed f (k + 1) xs ≡ changed g (k + 1) xs = changed_same f g (k + 1) xs (λ i y low high. same i y (omega arith) (omega arith)) in
      λ i. head i ∷ tail i

  pub changed_kept : (f : ℕ → A → A) (k : ℕ) (xs : List A) → ((i : ℕ) (x : A) → k ≤ i → i < k + length xs → f i x ≡ x) → changed f k xs ≡ xs
  changed_kept f k [] same = refl
  changed_kept f k (x ∷ xs) same =
      let more = longer x xs in
      let head : f k x ≡ x = same k x (omega arith) (omega arith) in
      let tail : changed f (k + 1) xs ≡ xs = changed_kept f (k + 1) xs (λ i y low high. same i y (omega arith) (omega arith)) in
      λ i. head i ∷ tail i

  pub changed_twice : (f g : ℕ → A → A) (k : ℕ) (xs : List A) → changed g k (changed f k xs) ≡ changed (λ i x. g i (f i x)) k xs
  changed_twice f g k [] = refl
  changed_twice f g k (x ∷ xs) = λ i. g k (f k x) ∷ changed_twice f g (k + 1) xs i

  pub length-changed : (f : ℕ → A → A) (k : ℕ) (xs : List A) → length (changed f k xs) ≡ length xs
  length-changed f k [] = refl
  length-changed f k (x ∷ xs) =
      let a = longer x xs in let b = longer (f k x) (changed f (k + 1) xs) in let rest = length-changed f (k + 1) xs in omega arith

  pub changed_at : (f : ℕ → A → A) (k : ℕ) (xs : List A) (i : ℕ) (d : A) → i < length xs → get_or (changed f k xs) i d ≡ f (k + i) (get_or xs i d)
  changed_at f k [] i d less = absurd (let none : length {A = A} [] ≡ 0 = refl in omega arith)
  changed_at f k (x ∷ xs) zero d less = let at : k ≡ k + 0 = omega arith in ap (λ n. f n x) at
  changed_at f k (x ∷ xs) (suc i) d less =
      let more = longer x xs in
      let at : (k + 1) + i ≡ k + suc i = omega arith in
      changed_at f (k + 1) xs i d (omega arith) ∙ ap (λ n. f n (get_or xs i d)) at

  pub within_yes : (from to : ℕ) (f : ℕ → A → A) (k : ℕ) (x : A) → from ≤ k → k < to → within from to f k x ≡ f k x
  within_yes from to f k x low high = ap (λ t. if t then f k x else x) (lies_yes from to k low high)

  pub within_early : (from to : ℕ) (f : ℕ → A → A) (k : ℕ) (x : A) → k < from → within from to f k x ≡ x
  within_early from to f k x early = ap (λ t. if t then f k x else x) (lies_early from to k early)

  pub within_late : (from to : ℕ) (f : ℕ → A → A) (k : ℕ) (x : A) → to ≤ k → within from to f k x ≡ x
  within_late from to f k x late = ap (λ t. if t then f k x else x) (lies_late from to k late)

  -- nothing is changed on an empty stretch
  pub empty_stretch : (from to : ℕ) (f : ℕ → A → A) (k : ℕ) (xs : List A) → to ≤ from → changed (within from to f) k xs ≡ xs
  empty_stretch from to f k xs none =
      changed_kept (within from to f) k xs (λ i x low high. ap (λ t. if t then f i x else x) (lies_nowhere from to i none))

  -- two stretches that lie alike at a place
  alike : (from to to' : ℕ) (f : ℕ → A → A) (k : ℕ) (x : A) → k < to → k < to' → within from to f k x ≡ within from to' f k x
  alike from to to' f k x a b = ap (λ t. if t then f k x else x) (lies_alike from to to' k a b)

  -- one place more of a stretch
  set_changed : (f : ℕ → A → A) (from to k : ℕ) (xs : List A) (i : ℕ) (d : A) → i < length xs → from ≤ to → to ≡ k + i
      → set (changed (within from to f) k xs) i (f to (get_or xs i d)) ≡ changed (within from (to + 1) f) k xs
  set_changed f from to k [] i d less low at = absurd (let none : length {A = A} [] ≡ 0 = refl in omega arith)
  set_changed f from to k (x ∷ xs) zero d less low at =
      let here : to ≡ k = omega arith in
      let head : f to x ≡ within from (to + 1) f k x = ap (λ n. f n x) here ∙ sym (within_yes from (to + 1) f k x (omega arith) (omega arith)) in
      let tail : changed (within from to f) (k + 1) xs ≡ changed (within from (to + 1) f) (k + 1) xs =
      changed_same (within from to f) (within from (to + 1) f) (k + 1) xs
      (λ j y a b. within_late from to f j y (omega arith) ∙ sym (within_late from (to + 1) f j y (omega arith))) in
      λ j. head j ∷ tail j
  set_changed f from to k (x ∷ xs) (suc i) d less low at =
      let more = longer x xs in
      let head : within from to f k x ≡ within from (to + 1) f k x = alike from to (to + 1) f k x (omega arith) (omega arith) in
      let tail : set (changed (within from to f) (k + 1) xs) i (f to (get_or xs i d)) ≡ changed (within from (to + 1) f) (k + 1) xs =
      set_changed f from to (k + 1) xs i d (omega arith) low (omega arith) in
      λ j. head j ∷ tail j

  -- a loop's step: the item at a place, changed
  pub stretch_more : (f : ℕ → A → A) (from i : ℕ) (old now : List A) (item new : A)
      → now ≡ changed (within from i f) 0 old → from ≤ i → i < length now → item ≡ get_or now i item → new ≡ f i item
      → set now i new ≡ changed (within from (i + 1) f) 0 old
  stretch_more f from i old now item new is low less at made =
      let long : length now ≡ length old = ap length is ∙ length-changed (within from i f) 0 old in
      let within_old : i < length old = omega arith in
      let here : 0 + i ≡ i = omega arith in
      let same : item ≡ get_or old i item =
      at ∙ ap (λ xs. get_or xs i item) is ∙ changed_at (within from i f) 0 old i item within_old
      ∙ within_late from i f (0 + i) (get_or old i item) (omega arith) in
      ap (λ xs. set xs i new) is
      ∙ ap (λ y. set (changed (within from i f) 0 old) i y) (made ∙ ap (f i) same)
      ∙ set_changed f from i 0 old i item within_old low (omega arith)

  pub changed_map : (f : ℕ → A → A) (g : ℕ → A) (k n : ℕ)
      → changed f k (map g (range_with_len k n)) ≡ map (λ i. f i (g i)) (range_with_len k n)
  changed_map f g k zero = refl
  changed_map f g k (suc n) = λ i. f k (g k) ∷ changed_map f g (k + 1) n i

pub map_same : {A : Type 0} (f g : ℕ → A) (xs : List ℕ) → ((n : ℕ) → f n ≡ g n) → map f xs ≡ map g xs
map_same f g xs same = λ i. map (λ n. same n i) xs
