-- Lead and gaps take no more than what is left on the axis.
use Rattle.std.proofs.Common.{◌≡◌, ℕ, zero, suc, ◌+◌, ◌-◌, ◌*◌, ◌/◌, ◌<◌, ◌≤◌, arith, rules, tests, false, ◌==◌}
use Rattle.std.proofs.Math.Nat.{div-mul-le_self, div-le_self}
use Rattle.fx_geom.specs.declared.words.MainAlign.{MainAlign}
use Rattle.fx_geom.specs.declared.words.MainAlign.TheVariants.{Start, End, Center, Between, Around, Evenly}
use Rattle.flex_layout.specs.Gaps.{lead_of, between_of}

gaps_within : (align : MainAlign) (rest m : ℕ) → lead_of align rest (suc m) + between_of align rest (suc m) * m ≤ rest
gaps_within Start rest m = omega arith
gaps_within End rest m = omega arith
gaps_within Center rest m = let low : rest / 2 ≤ rest = div-le_self rest 2 in omega arith
gaps_within Between rest zero = omega arith
gaps_within Between rest (suc m) =
    let more : (suc (suc m) == 1) ≡ false = search (rules, tests) in
    let one_less : suc (suc m) - 1 ≡ suc m = omega arith in
    rw (more, one_less) (let low : rest / suc m * suc m ≤ rest = div-mul-le_self rest (suc m) in omega arith)
gaps_within Around rest m =
    let low : rest / suc m * suc m ≤ rest = div-mul-le_self rest (suc m) in
    let half : rest / suc m / 2 ≤ rest / suc m = div-le_self (rest / suc m) 2 in
    omega arith
gaps_within Evenly rest m =
    let low : rest / (suc m + 1) * (suc m + 1) ≤ rest = div-mul-le_self rest (suc m + 1) in
    omega arith

pub gaps-within : (align : MainAlign) (rest n : ℕ) → 0 < n → lead_of align rest n + between_of align rest n * (n - 1) ≤ rest
gaps-within align rest zero some = absurd (omega arith)
gaps-within align rest (suc m) some =
    let one_less : suc m - 1 ≡ m = omega arith in
    rw one_less (gaps_within align rest m)
