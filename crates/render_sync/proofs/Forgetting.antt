-- What is left of an option whose value has to pass.
use Rattle.std.proofs.Common.{◌≡◌, ◌↔◌, Bool, true, false, cond, Option, Some, None, refl, sym, ap, ◌∙◌}
use Rattle.std.proofs.lemmas.Map.Entries.{option_filter}
use Rattle.fx_handles.specs.declared.Handle.{Handle}

-- an option that is kept where its value passes
pub filtered : (p : Handle → Bool) (o after : Option Handle) (h : Handle) → after ≡ option_filter p o → (after ≡ Some h) ↔ ((o ≡ Some h) × (p h ≡ true))
filtered p None after h e = (λ is. absurd (let both = sym e ∙ is in cc), λ both. absurd (let none = both.0 in cc))
filtered p (Some k) after h e = by_test (p k) refl
  where
    by_test : (b : Bool) → p k ≡ b → (after ≡ Some h) ↔ ((Some k ≡ Some h) × (p h ≡ true))
    by_test true passes =
        let is_k : after ≡ Some k = e ∙ ap (λ b. cond b (Some k) None) passes in (
          λ is. let one : Some k ≡ Some h = sym is_k ∙ is in let same_handle : k ≡ h = (cc) in (one, ap p (sym same_handle) ∙ passes),
          λ both. is_k ∙ both.0,
        )
    by_test false fails =
        let is_none : after ≡ None = e ∙ ap (λ b. cond b (Some k) None) fails in (
          λ is. absurd (let both = sym is_none ∙ is in cc),
          λ both. absurd (let same_handle : k ≡ h = (cc (both.0)) in let passes : p k ≡ true = ap p same_handle ∙ both.1 in let two : false ≡ true = sym fails ∙ passes in cc),
        )
