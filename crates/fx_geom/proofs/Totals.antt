-- Sums of lengths that stop on the way.
use Rattle.std.proofs.Common.{◌≡◌, ap, ◌∙◌, ℕ, ◌+◌, List, [], ◌∷◌, sum, arith}
use Rattle.std.specs.Prelude.{fold}
use Rattle.std.proofs.lemmas.List.Sums.{sum_by-cons}
use Rattle.fx_geom.specs.Len.{stopped, length_sum}

-- what is taken up one by one stops once
pub fold-stops : (at : ℕ) (lengths : List ℕ) → fold length_sum (stopped at) lengths ≡ stopped (at + sum lengths)
fold-stops at [] = omega arith
fold-stops at (n ∷ lengths) =
    let next : length_sum (stopped at) n ≡ stopped (at + n) = omega arith in
    let all : sum (n ∷ lengths) ≡ n + sum lengths = sum_by-cons (λ x. x) n lengths in
    ap (λ a. fold length_sum a lengths) next ∙ fold-stops (at + n) lengths ∙ omega (arith, all)
