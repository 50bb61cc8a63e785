-- Lists of numbers that differ, and lists that are left of others.
use Rattle.std.proofs.Common.{◌≡◌, ℕ, List, [], ◌∷◌, ◌++◌, ◌⊎◌, inl, inr, refl, sym, ap, ◌∙◌, subst}
use Rattle.plain_tree.specs.Laws.{DiffersFrom, AllDiffer, IsLeftOf}

-- ---- a number of a list, and numbers of two lists that differ

abbrev pub IsIn : ℕ → List ℕ → Type 0
IsIn k [] = ⊥
IsIn k (x ∷ xs) = (k ≡ x) ⊎ IsIn k xs

pub in_left : (k : ℕ) (xs ys : List ℕ) → IsIn k xs → IsIn k (xs ++ ys)
in_left k [] ys h = absurd h
in_left k (x ∷ xs) ys (inl h) = inl h
in_left k (x ∷ xs) ys (inr h) = inr (in_left k xs ys h)

pub in_right : (k : ℕ) (xs ys : List ℕ) → IsIn k ys → IsIn k (xs ++ ys)
in_right k [] ys h = h
in_right k (x ∷ xs) ys h = inr (in_right k xs ys h)

pub differs : (x k : ℕ) (xs : List ℕ) → DiffersFrom x xs → IsIn k xs → x ≡ k → ⊥
differs x k [] d h e = h
differs x k (y ∷ ys) d (inl h) e = d.0 (e ∙ h)
differs x k (y ∷ ys) d (inr h) e = differs x k ys d.1 h e

pub apart : (k : ℕ) (xs ys : List ℕ) → AllDiffer (xs ++ ys) → IsIn k xs → IsIn k ys → ⊥
apart k [] ys d h g = h
apart k (x ∷ xs) ys d (inl h) g = differs x k (xs ++ ys) d.0 (in_right k xs ys g) (sym h)
apart k (x ∷ xs) ys d (inr h) g = apart k xs ys d.1 h g

pub differ_from_left : (x : ℕ) (xs ys : List ℕ) → DiffersFrom x (xs ++ ys) → DiffersFrom x xs
differ_from_left x [] ys d = tt
differ_from_left x (y ∷ xs) ys d = (d.0, differ_from_left x xs ys d.1)

pub differ_left : (xs ys : List ℕ) → AllDiffer (xs ++ ys) → AllDiffer xs
differ_left [] ys d = tt
differ_left (x ∷ xs) ys d = (differ_from_left x xs ys d.0, differ_left xs ys d.1)

pub differ_right : (xs ys : List ℕ) → AllDiffer (xs ++ ys) → AllDiffer ys
differ_right [] ys d = d
differ_right (x ∷ xs) ys d = differ_right xs ys d.1

-- ---- what is left of a list

pub left_nothing : (ys : List ℕ) → IsLeftOf [] ys
left_nothing [] = refl
left_nothing (y ∷ ys) = inl (left_nothing ys)

pub left_both : (us vs xs ys : List ℕ) → IsLeftOf us vs → IsLeftOf xs ys → IsLeftOf (us ++ xs) (vs ++ ys)
left_both us [] xs ys first second = subst (λ l. IsLeftOf (l ++ xs) ys) (sym first) second
left_both us (v ∷ vs) xs ys (inl out) second = inl (left_both us vs xs ys out second)
left_both us (v ∷ vs) xs ys (inr kept) second =
    inr (kept.0 ++ xs, ap (λ l. l ++ xs) kept.1, left_both kept.0 vs xs ys kept.2 second)

pub left_past : (xs ys zs : List ℕ) → IsLeftOf xs zs → IsLeftOf xs (ys ++ zs)
left_past xs [] zs h = h
left_past xs (y ∷ ys) zs h = inl (left_past xs ys zs h)

pub differs_left : (x : ℕ) (xs ys : List ℕ) → IsLeftOf xs ys → DiffersFrom x ys → DiffersFrom x xs
differs_left x xs [] left h = subst (DiffersFrom x) (sym left) tt
differs_left x xs (y ∷ ys) (inl out) h = differs_left x xs ys out h.1
differs_left x xs (y ∷ ys) (inr kept) h = subst (DiffersFrom x) (sym kept.1) (h.0, differs_left x kept.0 ys kept.2 h.1)

pub all_left : (xs ys : List ℕ) → IsLeftOf xs ys → AllDiffer ys → AllDiffer xs
all_left xs [] left h = subst AllDiffer (sym left) tt
all_left xs (y ∷ ys) (inl out) h = all_left xs ys out h.1
all_left xs (y ∷ ys) (inr kept) h = subst AllDiffer (sym kept.1) (differs_left y kept.0 ys kept.2 h.0, all_left kept.0 ys kept.2 h.1)
