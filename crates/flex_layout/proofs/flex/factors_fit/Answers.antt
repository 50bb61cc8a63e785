use Rattle.std.proofs.Common.{◌*◌, ◌≤◌, length, sum, arith}
use Rattle.std.proofs.lemmas.List.Sums.{sum_by-le}
use Rattle.flex_layout.proofs.flex.factors_fit.Goals as goal

pub returns-clause-total : goal.returns-clause-total
returns-clause-total c factors are =
    let small : sum factors ≤ length factors * 1000000 = sum_by-le (λ n. n) 1000000 factors are.small in
    omega (arith, are.few)
