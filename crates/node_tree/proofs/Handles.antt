-- Lemmas on lists of handles: which stand in a list, and what a filter leaves of it.
use Rattle.std.proofs.Common.{◌≡◌, ℕ, ◌+◌, Bool, true, false, cond, not, ◌||◌, ◌&&◌, List, [], ◌∷◌, ◌++◌, filter, refl, sym, ap, ◌∙◌, inl, inr, arith}
use Rattle.std.proofs.lemmas.Bool.{cases_Bool, or_parts, or_right, or_cases}
use Rattle.std.proofs.lemmas.List.Sums.{sum_by-append}
use Rattle.fx_handles.specs.declared.Handle.{Handle}
use Rattle.fx_handles.specs.Handle.{same, times, Among}
use Rattle.fx_handles.specs.HandleLaws.{same-true, same-eq, same-false, cases_same, times-cons, times_here, times_there}
use Rattle.node_tree.specs.Part.{has}

-- the test of standing in a list
pub has-among : (h : Handle) (hs : List Handle) → Among h hs → has h hs ≡ true
has-among h [] among = absurd (omega arith)
has-among h (k ∷ hs) among =
    elim (cases_same k h) [
      | inl e ↦ ap (λ b. b || has h hs) (same-eq k h e)
      | inr ne ↦ or_right (same k h) (has h hs) (has-among h hs (omega (arith, times_there h k hs ne)))
    ]

pub has-true : (h : Handle) (hs : List Handle) → has h hs ≡ true → Among h hs
has-true h [] e = absurd (cc)
has-true h (k ∷ hs) e =
    elim (or_cases (same k h) (has h hs) e) [
      | inl here ↦
          let one : times h (k ∷ hs) ≡ times h (h ∷ hs) = ap (λ x. times h (x ∷ hs)) (same-true k h here) in
          omega (arith, times_here h hs)
      | inr later ↦ omega (arith, times-cons h k hs, has-true h hs later)
    ]

pub has-false : (h : Handle) (hs : List Handle) → has h hs ≡ false → times h hs ≡ 0
has-false h [] e = refl
has-false h (k ∷ hs) e =
    let parts = or_parts (same k h) (has h hs) e in
    omega (arith, times_there h k hs (same-false k h parts.0), has-false h hs parts.1)

pub has-absent : (h : Handle) (hs : List Handle) → times h hs ≡ 0 → has h hs ≡ false
has-absent h hs absent = elim (cases_Bool (has h hs)) [
  | inl e ↦ absurd (omega (arith, has-true h hs e))
  | inr e ↦ e
]

pub times-append : (h : Handle) (hs ks : List Handle) → times h (hs ++ ks) ≡ times h hs + times h ks
times-append h hs ks = sum_by-append (λ k. cond {A = ℕ} (same k h) 1 0) hs ks

-- a filter leaves a handle as often as it stood there, or not at all
pub times-filter : (p : Handle → Bool) (h : Handle) (hs : List Handle) → times h (filter p hs) ≡ cond (p h) (times h hs) 0
times-filter p h [] = elim (cases_Bool (p h)) [ inl e ↦ rw e refl | inr e ↦ rw e refl ]
times-filter p h (k ∷ hs) =
    elim (cases_Bool (p k)) [
      | inl yes_k ↦ ap (λ b. times h (cond b (k ∷ filter p hs) (filter p hs))) yes_k ∙ elim (cases_Bool (p h)) [
        | inl yes_h ↦ let later = times-filter p h hs ∙ ap (λ b. cond b (times h hs) 0) yes_h in ap_sum h k hs (filter p hs) later ∙ sym (ap (λ b. cond b (times h (k ∷ hs)) 0) yes_h)
        | inr no_h ↦
            let later : times h (filter p hs) ≡ 0 = times-filter p h hs ∙ ap (λ b. cond b (times h hs) 0) no_h in
            let ne = apart h k no_h yes_k in
            let none_there : times h (k ∷ filter p hs) ≡ 0 = omega (arith, times_there h k (filter p hs) ne) in
            none_there ∙ sym (ap (λ b. cond b (times h (k ∷ hs)) 0) no_h)
      ]
      | inr no_k ↦ ap (λ b. times h (cond b (k ∷ filter p hs) (filter p hs))) no_k ∙ elim (cases_Bool (p h)) [
        | inl yes_h ↦
            let later : times h (filter p hs) ≡ times h hs = times-filter p h hs ∙ ap (λ b. cond b (times h hs) 0) yes_h in
            let ne = apart_other h k yes_h no_k in
            let more : times h (filter p hs) ≡ times h (k ∷ hs) = omega (arith, times_there h k hs ne) in
            more ∙ sym (ap (λ b. cond b (times h (k ∷ hs)) 0) yes_h)
        | inr no_h ↦
            let later : times h (filter p hs) ≡ 0 = times-filter p h hs ∙ ap (λ b. cond b (times h hs) 0) no_h in
            later ∙ sym (ap (λ b. cond b (times h (k ∷ hs)) 0) no_h)
      ]
    ]
  where
    apart : (h k : Handle) → p h ≡ false → p k ≡ true → k ≡ h → ⊥
    apart h k a b e = absurd (let both = sym (ap p e) ∙ b in cc)

    apart_other : (h k : Handle) → p h ≡ true → p k ≡ false → k ≡ h → ⊥
    apart_other h k a b e = absurd (let both = sym (ap p e) ∙ b in cc)

    ap_sum : (h k : Handle) (hs xs : List Handle) → times h xs ≡ times h hs → times h (k ∷ xs) ≡ times h (k ∷ hs)
    ap_sum h k hs xs e = omega (arith, times-cons h k xs, times-cons h k hs)

-- tests that agree on the list leave the same
pub filter-agree : (p q : Handle → Bool) (hs : List Handle) → ((h : Handle) → Among h hs → p h ≡ q h) → filter p hs ≡ filter q hs
filter-agree p q [] agree = refl
filter-agree p q (k ∷ hs) agree =
    ap (λ b. cond b (k ∷ filter p hs) (filter p hs)) (agree k (omega (arith, times_here k hs)))
    ∙ ap (λ xs. cond (q k) (k ∷ xs) xs) (filter-agree p q hs (λ h among. agree h (omega (arith, times-cons h k hs))))

-- not the one and not the other
pub neither : (a b : Bool) → not (a || b) ≡ (not a && not b)
neither true b = refl
neither false b = refl
