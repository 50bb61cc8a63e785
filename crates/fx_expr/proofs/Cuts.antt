-- A text cut at the boundary that is nearest below the limit.
use Rattle.std.proofs.Common.{◌≡◌, ℕ, zero, suc, ◌<◌, ◌≤◌, Bool, true, false, subst, List, take, refl, sym, ◌∙◌, ap, arith, IsCharBoundary, inl, inr}
use Rattle.std.proofs.lemmas.Bool.{cases_lt}
use Rattle.std.proofs.lemmas.Bool.Decides.{nat_tests}
use Rattle.fx_expr.specs.Limit.{is_boundary, last_boundary, cut_text}

-- the test says what a boundary is
boundary_test : (bytes : List ℕ) (at : ℕ) → IsCharBoundary bytes at → is_boundary bytes at ≡ true
boundary_test bytes at b = grind (arith, nat_tests)

boundary_from : (bytes : List ℕ) (at : ℕ) → is_boundary bytes at ≡ true → IsCharBoundary bytes at
boundary_from bytes at t = grind (arith, nat_tests)

not_true : (b : Bool) → (b ≡ true → ⊥) → b ≡ false
not_true true n = absurd (n refl)
not_true false n = refl

-- one step down from a limit
step_yes : (bytes : List ℕ) (limit : ℕ) → is_boundary bytes (suc limit) ≡ true → last_boundary bytes (suc limit) ≡ suc limit
unfolding last_boundary
step_yes bytes limit t = rw t

step_no : (bytes : List ℕ) (limit : ℕ) → is_boundary bytes (suc limit) ≡ false → last_boundary bytes (suc limit) ≡ last_boundary bytes limit
unfolding last_boundary
step_no bytes limit t = rw t

last_zero : (bytes : List ℕ) → last_boundary bytes 0 ≡ 0
unfolding last_boundary
last_zero bytes = refl

pub last_boundary-at : (bytes : List ℕ) (limit at : ℕ) → at ≤ limit → IsCharBoundary bytes at
    → ((i : ℕ) → at < i → i ≤ limit → IsCharBoundary bytes i → ⊥) → last_boundary bytes limit ≡ at
last_boundary-at bytes zero at le b none = let e : at ≡ 0 = omega arith in last_zero bytes ∙ sym e
last_boundary-at bytes (suc limit) at le b none =
    elim (cases_lt at (suc limit)) [
      | inl below ↦
          let no : is_boundary bytes (suc limit) ≡ false = not_true _ (λ t. none (suc limit) below (omega arith) (boundary_from bytes (suc limit) t)) in
          let le' : at ≤ limit = omega arith in
          step_no bytes limit no ∙ last_boundary-at bytes limit at le' b (λ i above within. none i above (let w : i ≤ suc limit = omega arith in w))
      | inr above ↦
          let e : at ≡ suc limit = omega arith in
          step_yes bytes limit (boundary_test bytes (suc limit) (subst (λ n. IsCharBoundary bytes n) e b)) ∙ sym e
    ]

pub cut_text-at : (bytes : List ℕ) (at : ℕ) → at ≤ 1024 → IsCharBoundary bytes at
    → ((i : ℕ) → at < i → i ≤ 1024 → IsCharBoundary bytes i → ⊥) → take at bytes ≡ cut_text bytes
unfolding cut_text
cut_text-at bytes at le b none = ap (λ n. take n bytes) (sym (last_boundary-at bytes 1024 at le b none))
