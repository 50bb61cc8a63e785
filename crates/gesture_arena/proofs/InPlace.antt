-- A list whose elements are replaced in order, one after another.
use Rattle.std.proofs.Common.{◌≡◌, refl, sym, ◌∙◌, ap, ℕ, zero, suc, ◌+◌, ◌<◌, List, [], ◌∷◌, ◌++◌, map, take, drop, length, get_or, arith, add-one}
use Rattle.std.proofs.Math.ListN.{set}

get_next : {A : Type 0} (f : A → A) (xs : List A) (i : ℕ) (d : A) → get_or (map f (take i xs) ++ drop i xs) i d ≡ get_or xs i d
get_next f [] zero d = refl
get_next f [] (suc i) d = refl
get_next f (x ∷ xs) zero d = refl
get_next f (x ∷ xs) (suc i) d = get_next f xs i d

set_next : {A : Type 0} (f : A → A) (xs : List A) (i : ℕ) (d : A) → i < length xs
    → set (map f (take i xs) ++ drop i xs) i (f (get_or xs i d)) ≡ map f (take (suc i) xs) ++ drop (suc i) xs
set_next f [] i d h = absurd (omega arith)
set_next f (x ∷ xs) zero d h = refl
set_next f (x ∷ xs) (suc i) d h = ap (λ t. f x ∷ t) (set_next f xs i d (omega arith))

-- one element more
pub step_next : {A : Type 0} (f : A → A) (xs ys : List A) (i : ℕ) (d r : A) → i < length xs
    → ys ≡ map f (take i xs) ++ drop i xs → r ≡ f (get_or ys i d)
    → set ys i r ≡ map f (take (i + 1) xs) ++ drop (i + 1) xs
step_next f xs ys i d r h ys-is r-is =
    let e : r ≡ f (get_or xs i d) = r-is ∙ ap (λ t. f (get_or t i d)) ys-is ∙ ap f (get_next f xs i d) in
    ap (λ t. set t i r) ys-is ∙ ap (λ t. set (map f (take i xs) ++ drop i xs) i t) e ∙ set_next f xs i d h
    ∙ ap (λ n. map f (take n xs) ++ drop n xs) (sym (add-one i))
