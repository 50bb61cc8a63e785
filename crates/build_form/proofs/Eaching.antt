-- Steps one after another.
use Rattle.std.proofs.Common.{◌≡◌, ℕ, suc, ◌+◌, ◌<◌, ◌≤◌, List, [], ◌∷◌, ◌++◌, length, drop, drop-cons, get_or, refl, sym, ap, ◌∙◌, arith}
use Rattle.std.proofs.lemmas.List.{append_assoc, append-nil, drop_all}
use Rattle.build_form.specs.Step.{Fault, Progress, Step, stops, gives, and_then, each}

-- what is given after some that were given before
abbrev pub after : {A : Type 0} → List A → Step (List A) → Step (List A)
after xs (stops f) = stops f
after xs (gives ys s) = gives (xs ++ ys) s

after-none : {A : Type 0} (r : Step (List A)) → after [] r ≡ r
after-none (stops f) = refl
after-none (gives ys s) = refl

after-more : {A : Type 0} (xs : List A) (x : A) (r : Step (List A)) → after xs (and_then r (λ ys s. gives (x ∷ ys) s)) ≡ after (xs ++ x ∷ []) r
after-more xs x (stops f) = refl
after-more xs x (gives ys s) = ap (λ l. gives l s) (sym (append_assoc xs (x ∷ []) ys))

drop_all_at : {A : Type 0} (xs : List A) (i : ℕ) → length xs ≤ i → drop i xs ≡ []
drop_all_at xs i h = drop_all i xs h

module _ {A B : Type 0} (go : A → Progress → Step B) (bs : List A) where
  -- one more
  pub each_more : (i : ℕ) (a : A) (x : B) (xs ys : List B) (s t : Progress) (whole : Step (List B)) → i < length bs → a ≡ get_or bs i a → go a s ≡ gives x t → ys ≡ xs ++ x ∷ []
      → whole ≡ after xs (each go (drop i bs) s) → whole ≡ after ys (each go (drop (i + 1) bs) t)
  each_more i a x xs ys s t whole low at one is so_far =
      let next : suc i ≡ i + 1 = omega arith in
      so_far
      ∙ ap (λ l. after xs (each go l s)) (drop-cons bs i a low ∙ ap (λ b. b ∷ drop (suc i) bs) (sym at))
      ∙ ap (λ r. after xs (and_then r (λ y s1. and_then (each go (drop (suc i) bs) s1) (λ zs s2. gives (y ∷ zs) s2)))) one
      ∙ after-more xs x (each go (drop (suc i) bs) t)
      ∙ ap (λ l. after l (each go (drop (suc i) bs) t)) (sym is)
      ∙ ap (λ k. after ys (each go (drop k bs) t)) next

  -- one stops
  pub each_stops : (i : ℕ) (a : A) (xs : List B) (s : Progress) (f : Fault) (whole : Step (List B)) → i < length bs → a ≡ get_or bs i a → go a s ≡ stops f
      → whole ≡ after xs (each go (drop i bs) s) → whole ≡ stops f
  each_stops i a xs s f whole low at one so_far =
      so_far
      ∙ ap (λ l. after xs (each go l s)) (drop-cons bs i a low ∙ ap (λ b. b ∷ drop (suc i) bs) (sym at))
      ∙ ap (λ r. after xs (and_then r (λ y s1. and_then (each go (drop (suc i) bs) s1) (λ zs s2. gives (y ∷ zs) s2)))) one

  pub each_starts : (s : Progress) → each go bs s ≡ after [] (each go (drop 0 bs) s)
  each_starts s = sym (after-none (each go bs s))

  pub each_ends : (i : ℕ) (xs : List B) (s : Progress) (whole : Step (List B)) → length bs ≤ i → whole ≡ after xs (each go (drop i bs) s) → whole ≡ gives xs s
  each_ends i xs s whole past so_far = so_far ∙ ap (λ l. after xs (each go l s)) (drop_all_at bs i past) ∙ ap (λ l. gives l s) (append-nil xs)
