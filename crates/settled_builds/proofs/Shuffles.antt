-- Lists that have the same items in another order.
use Rattle.std.proofs.Common.{◌≡◌, ℕ, suc, ◌+◌, List, [], ◌∷◌, ◌++◌, length, refl, sym, ap, ◌∙◌, subst, ◌⊎◌, inl, inr, arith}

module _ {A : Type 0} where
  -- the second list is what is left when the items of the first one are taken out one after another, each from anywhere
  abbrev pub Shuffle : List A → List A → Type 0
  Shuffle xs [] = xs ≡ []
  Shuffle xs (y ∷ ys) = (front : List A) × (back : List A) × (xs ≡ front ++ y ∷ back) × Shuffle (front ++ back) ys

  -- what one of a list has
  abbrev pub Any : (A → Type 0) → List A → Type 0
  Any P [] = ⊥
  Any P (x ∷ xs) = P x ⊎ Any P xs

  any_out : (P : A → Type 0) (y : A) (front back : List A) → Any P (front ++ y ∷ back) → P y ⊎ Any P (front ++ back)
  any_out P y [] back h = h
  any_out P y (x ∷ front) back (inl h) = inr (inl h)
  any_out P y (x ∷ front) back (inr h) = elim (any_out P y front back h) [
    | inl e ↦ inl e
    | inr e ↦ inr (inr e)
  ]

  pub any_shuffled : (P : A → Type 0) (xs ys : List A) → Shuffle xs ys → Any P xs → Any P ys
  any_shuffled P xs [] s h = absurd (subst (Any P) s h)
  any_shuffled P xs (y ∷ ys) s h = elim (any_out P y s.0 s.1 (subst (Any P) s.2 h)) [
    | inl e ↦ inl e
    | inr e ↦ inr (any_shuffled P (s.0 ++ s.1) ys s.3 e)
  ]

  -- how much they make together
  abbrev pub sum : (A → ℕ) → List A → ℕ
  sum f [] = 0
  sum f (x ∷ xs) = f x + sum f xs

  sum_out : (f : A → ℕ) (y : A) (front back : List A) → sum f (front ++ y ∷ back) ≡ f y + sum f (front ++ back)
  sum_out f y [] back = refl
  sum_out f y (x ∷ front) back = let rest = sum_out f y front back in omega arith

  pub sum_shuffled : (f : A → ℕ) (xs ys : List A) → Shuffle xs ys → sum f ys ≡ sum f xs
  sum_shuffled f xs [] s = ap (sum f) (sym s)
  sum_shuffled f xs (y ∷ ys) s = ap (λ k. f y + k) (sum_shuffled f (s.0 ++ s.1) ys s.3) ∙ sym (sum_out f y s.0 s.1) ∙ ap (sum f) (sym s.2)

-- ---- places of a list, each once

-- one of these is a number
abbrev pub Has : ℕ → List ℕ → Type 0
Has k xs = Any (λ x. x ≡ k) xs

abbrev pub Lacks : ℕ → List ℕ → Type 0
Lacks k [] = Unit {0}
Lacks k (x ∷ xs) = (k ≡ x → ⊥) × Lacks k xs

-- no two are equal
abbrev pub AreOnce : List ℕ → Type 0
AreOnce [] = Unit {0}
AreOnce (x ∷ xs) = Lacks x xs × AreOnce xs

split_at : (k : ℕ) (xs : List ℕ) → Has k xs → (front : List ℕ) × (back : List ℕ) × (xs ≡ front ++ k ∷ back)
split_at k [] h = absurd h
split_at k (x ∷ xs) (inl e) = ([], xs, λ i. e i ∷ xs)
split_at k (x ∷ xs) (inr h) = let r = split_at k xs h in (x ∷ r.0, r.1, ap (λ zs. x ∷ zs) r.2)

others_in : (j k : ℕ) (front back : List ℕ) → (j ≡ k → ⊥) → Has k (front ++ j ∷ back) → Has k (front ++ back)
others_in j k front back other h = elim (any_out (λ x. x ≡ k) j front back h) [
  | inl e ↦ absurd (other e)
  | inr e ↦ e
]

length_out : (j : ℕ) (front back : List ℕ) → length (front ++ j ∷ back) ≡ suc (length (front ++ back))
length_out j [] back = refl
length_out j (x ∷ front) back = ap suc (length_out j front back)

-- all of these stand in the other list
abbrev pub AllIn : List ℕ → List ℕ → Type 0
AllIn xs [] = Unit {0}
AllIn xs (j ∷ js) = Has j xs × AllIn xs js

all_in_out : (j : ℕ) (front back js : List ℕ) → Lacks j js → AllIn (front ++ j ∷ back) js → AllIn (front ++ back) js
all_in_out j front back [] once h = tt
all_in_out j front back (k ∷ js) once h = (others_in j k front back once.0 h.0, all_in_out j front back js once.1 h.1)

no_more : (xs : List ℕ) → length xs ≡ 0 → xs ≡ []
no_more [] e = refl
no_more (x ∷ xs) e = absurd (omega arith)

pub all_shuffled : (xs js : List ℕ) → AreOnce js → AllIn xs js → length xs ≡ length js → Shuffle xs js
all_shuffled xs [] once h e = no_more xs e
all_shuffled xs (j ∷ js) once h e =
    let s = split_at j xs h.0 in
    let less : length (s.0 ++ s.1) ≡ length js = let all : length xs ≡ suc (length (s.0 ++ s.1)) = ap length s.2 ∙ length_out j s.0 s.1 in omega arith in (
      s.0,
      s.1,
      s.2,
      all_shuffled (s.0 ++ s.1) js once.1 (all_in_out j s.0 s.1 js once.0 (subst (λ zs. AllIn zs js) s.2 h.1)) less,
    )
