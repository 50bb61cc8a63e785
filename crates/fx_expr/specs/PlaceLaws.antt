-- A law of places that are added to a list, for this crate and the proofs of those above it: what is added in two steps is what passes
-- either test.
use Rattle.std.proofs.Common.{◌≡◌, ℕ, Bool, true, false, ◌||◌, List, ap, refl, ◌∙◌}
use Rattle.fx_expr.specs.Places.{is_among, AddsPlaces}

pub or_assoc : (a b c : Bool) → ((a || b) || c) ≡ (a || (b || c))
or_assoc true b c = refl
or_assoc false b c = refl

pub adds_two : (a b c : List ℕ) (P Q : ℕ → Bool) → AddsPlaces a b P → AddsPlaces b c Q → AddsPlaces a c (λ i. P i || Q i)
adds_two a b c P Q p q i = q i ∙ ap (λ x. x || Q i) (p i) ∙ or_assoc (is_among i a) (P i) (Q i)
