-- Laws of handles, for this crate and the proofs of those above it: when two handles are one, and how often one stands in a list.
use Rattle.std.proofs.Common.{◌≡◌, ◌≢◌, ◌⊎◌, ℕ, ◌+◌, true, false, cond, eqb, ◌&&◌, List, ◌∷◌, refl, sym, ap, ◌∙◌, inl, inr, arith}
use Rattle.std.proofs.lemmas.Bool.{cases_Bool, and_parts, and_from, eqb-true, eq-eqb, false_from_ne_true, false≢true}
use Rattle.std.proofs.lemmas.List.Sums.{sum_by-cons}
use Rattle.fx_handles.specs.declared.Handle.{Handle}
use Rattle.fx_handles.specs.Handle.{same, times}

-- two handles with the same parts are one
pub handles_equal : (h k : Handle) → k.index ≡ h.index → k.generation ≡ h.generation → k ≡ h
handles_equal h k i g =
    let handle : ℕ → ℕ → Handle = λ a b. record { index = a; generation = b } in
    ap (λ a. handle a k.generation) i ∙ ap (λ b. handle h.index b) g

-- another handle of the same slot has another generation
pub handles_differ : (h k : Handle) → k ≢ h → k.index ≡ h.index → k.generation ≢ h.generation
handles_differ h k differs i = λ g. differs (handles_equal h k i g)

-- the test of equality
pub same-true : (h k : Handle) → same h k ≡ true → h ≡ k
unfolding same
same-true h k e =
    let parts = and_parts (eqb h.index k.index) (eqb h.generation k.generation) e in
    handles_equal k h (eqb-true h.index k.index parts.0) (eqb-true h.generation k.generation parts.1)

pub same_self : (h : Handle) → same h h ≡ true
unfolding same
same_self h = and_from (eqb h.index h.index) (eqb h.generation h.generation) (eq-eqb h.index h.index refl) (eq-eqb h.generation h.generation refl)

pub same-eq : (h k : Handle) → h ≡ k → same h k ≡ true
same-eq h k e = ap (λ x. same x k) e ∙ same_self k

pub same-ne : (h k : Handle) → h ≢ k → same h k ≡ false
same-ne h k ne = false_from_ne_true (same h k) (λ e. ne (same-true h k e))

pub same-false : (h k : Handle) → same h k ≡ false → h ≢ k
same-false h k e = λ eq. absurd (false≢true (sym e ∙ same-eq h k eq))

pub cases_same : (h k : Handle) → (h ≡ k) ⊎ (h ≢ k)
cases_same h k = elim (cases_Bool (same h k)) [ inl e ↦ inl (same-true h k e) | inr e ↦ inr (same-false h k e) ]

-- what derived `==` computes
pub same_is : (h k : Handle) → (eqb h.index k.index && eqb h.generation k.generation) ≡ same h k
unfolding same
same_is h k = refl

-- how often a handle stands in a longer list
pub times-cons : (h k : Handle) (hs : List Handle) → times h (k ∷ hs) ≡ cond {A = ℕ} (same k h) 1 0 + times h hs
times-cons h k hs = sum_by-cons (λ x. cond {A = ℕ} (same x h) 1 0) k hs

pub times_here : (h : Handle) (hs : List Handle) → times h (h ∷ hs) ≡ 1 + times h hs
times_here h hs = let one : cond {A = ℕ} (same h h) 1 0 ≡ 1 = ap (λ b. cond {A = ℕ} b 1 0) (same_self h) in omega (arith, times-cons h h hs)

pub times_there : (h k : Handle) (hs : List Handle) → k ≢ h → times h (k ∷ hs) ≡ times h hs
times_there h k hs ne = let none : cond {A = ℕ} (same k h) 1 0 ≡ 0 = ap (λ b. cond {A = ℕ} b 1 0) (same-ne k h ne) in omega (arith, times-cons h k hs)
