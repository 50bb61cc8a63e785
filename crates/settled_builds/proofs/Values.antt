-- Values of inherited names that differ in one name at most.
use Rattle.std.proofs.Common.{◌≡◌, ℕ, zero, suc, ◌<◌, List, [], ◌∷◌, length, refl, sym, ap, arith}
use Rattle.std.specs.Prelude.{slice_set, slice_index_or}
use Rattle.fx_expr.specs.declared.values.Value.{Value}

abbrev pub DifferAt : ℕ → List Value → List Value → Type 0
DifferAt k [] [] = Unit {0}
DifferAt k [] (y ∷ ys) = ⊥
DifferAt k (x ∷ xs) [] = ⊥
DifferAt zero (x ∷ xs) (y ∷ ys) = xs ≡ ys
DifferAt (suc k) (x ∷ xs) (y ∷ ys) = (x ≡ y) × DifferAt k xs ys

pub differ_start : (k : ℕ) (vs : List Value) (a b : Value) → DifferAt k (slice_set vs k a) (slice_set vs k b)
differ_start k [] a b = tt
differ_start zero (x ∷ xs) a b = refl
differ_start (suc k) (x ∷ xs) a b = (refl, differ_start k xs a b)

pub differ_set : (k j : ℕ) (vs ws : List Value) (v : Value) → DifferAt k vs ws → DifferAt k (slice_set vs j v) (slice_set ws j v)
differ_set k j [] [] v h = tt
differ_set k j [] (y ∷ ys) v h = absurd h
differ_set k j (x ∷ xs) [] v h = absurd h
differ_set zero zero (x ∷ xs) (y ∷ ys) v h = h
differ_set zero (suc j) (x ∷ xs) (y ∷ ys) v h = ap (λ zs. slice_set zs j v) h
differ_set (suc k) zero (x ∷ xs) (y ∷ ys) v h = (refl, h.1)
differ_set (suc k) (suc j) (x ∷ xs) (y ∷ ys) v h = (h.0, differ_set k j xs ys v h.1)

-- where that name gets a value they are the same
pub same_set : (k : ℕ) (vs ws : List Value) (v : Value) → DifferAt k vs ws → slice_set vs k v ≡ slice_set ws k v
same_set k [] [] v h = refl
same_set k [] (y ∷ ys) v h = absurd h
same_set k (x ∷ xs) [] v h = absurd h
same_set zero (x ∷ xs) (y ∷ ys) v h = ap (λ zs. v ∷ zs) h
same_set (suc k) (x ∷ xs) (y ∷ ys) v h = λ i. h.0 i ∷ same_set k xs ys v h.1 i

-- and so are those of other names
pub differ_other : (k j : ℕ) (vs ws : List Value) (d : Value) → DifferAt k vs ws → (j ≡ k → ⊥) → slice_index_or vs j d ≡ slice_index_or ws j d
differ_other k j [] [] d h other = refl
differ_other k j [] (y ∷ ys) d h other = absurd h
differ_other k j (x ∷ xs) [] d h other = absurd h
differ_other zero zero (x ∷ xs) (y ∷ ys) d h other = absurd (other refl)
differ_other zero (suc j) (x ∷ xs) (y ∷ ys) d h other = ap (λ zs. slice_index_or zs j d) h
differ_other (suc k) zero (x ∷ xs) (y ∷ ys) d h other = h.0
differ_other (suc k) (suc j) (x ∷ xs) (y ∷ ys) d h other = differ_other k j xs ys d h.1 (λ e. other (ap suc e))

pub differ_long : (k : ℕ) (vs ws : List Value) → DifferAt k vs ws → length ws ≡ length vs
differ_long k [] [] h = refl
differ_long k [] (y ∷ ys) h = absurd h
differ_long k (x ∷ xs) [] h = absurd h
differ_long zero (x ∷ xs) (y ∷ ys) h = ap (λ (zs : List Value). suc (length zs)) (sym h)
differ_long (suc k) (x ∷ xs) (y ∷ ys) h = ap suc (differ_long k xs ys h.1)

pub set_here : (k : ℕ) (vs : List Value) (v d : Value) → k < length vs → slice_index_or (slice_set vs k v) k d ≡ v
set_here k [] v d low = absurd (omega arith)
set_here zero (x ∷ xs) v d low = refl
set_here (suc k) (x ∷ xs) v d low = set_here k xs v d (omega arith)

pub set_there : (k j : ℕ) (vs : List Value) (v d : Value) → (j ≡ k → ⊥) → slice_index_or (slice_set vs j v) k d ≡ slice_index_or vs k d
set_there k j [] v d other = refl
set_there zero zero (x ∷ xs) v d other = absurd (other refl)
set_there zero (suc j) (x ∷ xs) v d other = refl
set_there (suc k) zero (x ∷ xs) v d other = refl
set_there (suc k) (suc j) (x ∷ xs) v d other = set_there k j xs v d (λ e. other (ap suc e))
