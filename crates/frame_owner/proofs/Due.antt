-- Of what is built is no more than of what is due.
use Rattle.std.proofs.Common.{◌≡◌, ◌≤◌, Bool, true, false, cond, List, [], ◌∷◌, length, filter, refl, arith}

fewer_when : {X : Type 0} (a b : Bool) (x : X) (xs ys : List X) → (a ≡ true → b ≡ true) → length xs ≤ length ys → length (cond a (x ∷ xs) xs) ≤ length (cond b (x ∷ ys) ys)
fewer_when true true x xs ys h le = omega arith
fewer_when true false x xs ys h le = let bad : false ≡ true = h refl in cc
fewer_when false true x xs ys h le = omega arith
fewer_when false false x xs ys h le = le

-- where one test holds wherever another does, no fewer pass it
pub fewer : {X : Type 0} (p q : X → Bool) (xs : List X) → ((x : X) → p x ≡ true → q x ≡ true) → length (filter p xs) ≤ length (filter q xs)
fewer p q [] h = omega arith
fewer p q (x ∷ xs) h = fewer_when (p x) (q x) x (filter p xs) (filter q xs) (h x) (fewer p q xs h)
