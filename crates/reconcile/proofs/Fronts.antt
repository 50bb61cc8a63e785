-- A count of the pairs that two lists have in common from the front on.
use Rattle.std.proofs.Common.{◌≡◌, ℕ, ◌+◌, ◌-◌, ◌<◌, ◌≤◌, min, Bool, true, false, List, length, get_or, drop, map, reverse, sym, ◌∙◌, ap, arith, length-drop}
use Rattle.std.specs.List.{common_prefix_len}
use Rattle.std.proofs.lemmas.List.{get_or-map, get_or-reverse, length-map, length-reverse}
use Rattle.std.proofs.lemmas.List.Sums.{common_prefix_len-le, common_prefix_len-drop_yes, common_prefix_len-drop_no}

-- what is read at a place, as the view of the list has it
pub seen_at : {R X : Type 0} (f : R → X) (rs : List R) (i : ℕ) (r : R) → i < length rs → r ≡ get_or rs i r → get_or (map f rs) i (f r) ≡ f r
seen_at f rs i r below at = get_or-map f rs i r (f r) below ∙ ap f (sym at)

-- what is read at a place from the end
pub seen_from_end : {R X : Type 0} (f : R → X) (rs : List R) (i : ℕ) (r : R) → i < length rs → r ≡ get_or rs (length rs - 1 - i) r
    → get_or (reverse (map f rs)) i (f r) ≡ f r
seen_from_end f rs i r below at =
    let within : i < length (map f rs) = omega (arith, length-map rs f) in
    let there : length rs - 1 - i < length rs = omega arith in
    get_or-reverse (map f rs) i (f r) within
    ∙ ap (λ n. get_or (map f rs) (n - 1 - i) (f r)) (length-map rs f)
    ∙ seen_at f rs (length rs - 1 - i) r there at

module _ {X : Type 0} (e : X → X → Bool) (xs ys : List X) (i : ℕ) where
  -- one pair more
  pub front_more : (x y : X) → i < length xs → i < length ys → get_or xs i x ≡ x → get_or ys i y ≡ y → e x y ≡ true
      → common_prefix_len e xs ys ≡ i + common_prefix_len e (drop i xs) (drop i ys)
      → common_prefix_len e xs ys ≡ (i + 1) + common_prefix_len e (drop (i + 1) xs) (drop (i + 1) ys)
  front_more x y a b p q t h =
      let s : e (get_or xs i x) (get_or ys i y) ≡ true = ap (λ z. e z (get_or ys i y)) p ∙ ap (λ z. e x z) q ∙ t in
      omega (arith, common_prefix_len-drop_yes e xs ys i x y a b s)

  -- the first pair that fails
  pub front_stops : (x y : X) → i < length xs → i < length ys → get_or xs i x ≡ x → get_or ys i y ≡ y → e x y ≡ false
      → common_prefix_len e xs ys ≡ i + common_prefix_len e (drop i xs) (drop i ys)
      → common_prefix_len e xs ys ≡ i
  front_stops x y a b p q t h =
      let s : e (get_or xs i x) (get_or ys i y) ≡ false = ap (λ z. e z (get_or ys i y)) p ∙ ap (λ z. e x z) q ∙ t in
      omega (arith, common_prefix_len-drop_no e xs ys i x y a b s)

  -- no pair is left
  pub front_all : min (length xs) (length ys) ≤ i → i ≤ min (length xs) (length ys)
      → common_prefix_len e xs ys ≡ i + common_prefix_len e (drop i xs) (drop i ys)
      → common_prefix_len e xs ys ≡ i
  front_all end within h =
      let le = common_prefix_len-le e (drop i xs) (drop i ys) in
      omega (arith, le.0, le.1, length-drop i xs, length-drop i ys)

-- the same of lists that are seen by a view, a pair read at a place
module _ {R X : Type 0} (e : X → X → Bool) (f : R → X) (rs ss : List R) (i : ℕ) (r s : R) (a : i < length rs) (b : i < length ss) where
  pub pair_more : r ≡ get_or rs i r → s ≡ get_or ss i s → e (f r) (f s) ≡ true
      → common_prefix_len e (map f rs) (map f ss) ≡ i + common_prefix_len e (drop i (map f rs)) (drop i (map f ss))
      → common_prefix_len e (map f rs) (map f ss) ≡ (i + 1) + common_prefix_len e (drop (i + 1) (map f rs)) (drop (i + 1) (map f ss))
  pair_more p q t = front_more e (map f rs) (map f ss) i (f r) (f s) (omega (arith, length-map rs f)) (omega (arith, length-map ss f)) (seen_at f rs i r a p) (seen_at f ss i s b q) t

  pub pair_stops : r ≡ get_or rs i r → s ≡ get_or ss i s → e (f r) (f s) ≡ false
      → common_prefix_len e (map f rs) (map f ss) ≡ i + common_prefix_len e (drop i (map f rs)) (drop i (map f ss))
      → common_prefix_len e (map f rs) (map f ss) ≡ i
  pair_stops p q t = front_stops e (map f rs) (map f ss) i (f r) (f s) (omega (arith, length-map rs f)) (omega (arith, length-map ss f)) (seen_at f rs i r a p) (seen_at f ss i s b q) t

  pub end_more : r ≡ get_or rs (length rs - 1 - i) r → s ≡ get_or ss (length ss - 1 - i) s → e (f r) (f s) ≡ true
      → common_prefix_len e (reverse (map f rs)) (reverse (map f ss)) ≡ i + common_prefix_len e (drop i (reverse (map f rs))) (drop i (reverse (map f ss)))
      → common_prefix_len e (reverse (map f rs)) (reverse (map f ss)) ≡ (i + 1) + common_prefix_len e (drop (i + 1) (reverse (map f rs))) (drop (i + 1) (reverse (map f ss)))
  end_more p q t = front_more e (reverse (map f rs)) (reverse (map f ss)) i (f r) (f s) (omega (arith, length-map rs f, length-reverse (map f rs))) (omega (arith, length-map ss f, length-reverse (map f ss))) (seen_from_end f rs i r a p) (seen_from_end f ss i s b q) t

  pub end_stops : r ≡ get_or rs (length rs - 1 - i) r → s ≡ get_or ss (length ss - 1 - i) s → e (f r) (f s) ≡ false
      → common_prefix_len e (reverse (map f rs)) (reverse (map f ss)) ≡ i + common_prefix_len e (drop i (reverse (map f rs))) (drop i (reverse (map f ss)))
      → common_prefix_len e (reverse (map f rs)) (reverse (map f ss)) ≡ i
  end_stops p q t = front_stops e (reverse (map f rs)) (reverse (map f ss)) i (f r) (f s) (omega (arith, length-map rs f, length-reverse (map f rs))) (omega (arith, length-map ss f, length-reverse (map f ss))) (seen_from_end f rs i r a p) (seen_from_end f ss i s b q) t
