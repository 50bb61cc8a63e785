-- Two lists that are compared item by item, as a view shows them: how far they agree, and what that says of the whole.
use Rattle.std.proofs.Common.{◌≡◌, ℕ, ◌+◌, ◌<◌, ◌≤◌, List, length, map, take, get_or, sym, ◌∙◌, ap, subst}
use Rattle.std.proofs.Math.ListN.{get_or-map}
use Rattle.std.proofs.lemmas.List.{take_all, take_more_same, length-map, get_or-map as shown_within}

module _ {A B : Type 0} (view : A → B) (xs ys : List A) where
  shown_at : (zs : List A) (i : ℕ) (z : A) → z ≡ get_or zs i z → get_or (map view zs) i (view z) ≡ view z
  shown_at zs i z at = get_or-map view zs i z ∙ ap view (sym at)

  -- one item more
  pub agree_more : (i : ℕ) (x y : A) → i < length xs → i < length ys → x ≡ get_or xs i x → y ≡ get_or ys i y
      → view x ≡ view y → take i (map view xs) ≡ take i (map view ys) → take (i + 1) (map view xs) ≡ take (i + 1) (map view ys)
  agree_more i x y in_xs in_ys at_x at_y same so_far =
      let below_xs = subst (λ n. i < n) (sym (length-map xs view)) in_xs in
      let below_ys = subst (λ n. i < n) (sym (length-map ys view)) in_ys in
      let here : get_or (map view xs) i (view x) ≡ get_or (map view ys) i (view x) =
      shown_at xs i x at_x ∙ same ∙ sym (shown_at ys i y at_y) ∙ ap (get_or (map view ys) i) (sym same) in
      take_more_same (map view xs) (map view ys) i (view x) below_xs below_ys so_far here

  -- all of them
  pub agree_all : (i : ℕ) → length xs ≤ i → length ys ≤ i → take i (map view xs) ≡ take i (map view ys) → map view xs ≡ map view ys
  agree_all i end_xs end_ys so_far =
      let past_xs = subst (λ n. n ≤ i) (sym (length-map xs view)) end_xs in
      let past_ys = subst (λ n. n ≤ i) (sym (length-map ys view)) end_ys in
      sym (take_all i (map view xs) past_xs) ∙ so_far ∙ take_all i (map view ys) past_ys

  -- lists that are equal agree at each place
  pub agree_at : (i : ℕ) (x y : A) → i < length xs → x ≡ get_or xs i x → y ≡ get_or ys i y → map view xs ≡ map view ys → view x ≡ view y
  agree_at i x y in_xs at_x at_y same =
      let below_ys = subst (λ n. i < n) (sym (length-map xs view) ∙ ap length same ∙ length-map ys view) in_xs in
      let at_ys : get_or (map view ys) i (view x) ≡ view (get_or ys i y) = shown_within view ys i y (view x) below_ys in
      sym (shown_at xs i x at_x) ∙ ap (λ zs. get_or zs i (view x)) same ∙ at_ys ∙ ap view (sym at_y)
