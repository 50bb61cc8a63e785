-- The shares of flexible children: each is near the exact fraction, and all sum to the free space.
use Rattle.std.proofs.Common.{◌≡◌, ap, sym, ◌∙◌, ℕ, ◌+◌, ◌-◌, ◌*◌, ◌/◌, ◌<◌, ◌≤◌, List, [], ◌∷◌, sum, arith, zero-add, add-zero}
use Rattle.std.proofs.Math.Nat.{div-mul-le_self, lt-div-mul-add, mul-div_cancel}
use Rattle.std.proofs.lemmas.List.Sums.{sum_by-cons}
use Rattle.std.proofs.lemmas.Nat.{le-div}
use Rattle.flex_layout.specs.Flex.{free_before, share_of, shares_after, shares_of}

-- a quotient grows with its dividend
pub div_grows : (a b t : ℕ) → 0 < t → a ≤ b → a / t ≤ b / t
div_grows a b t some below =
    let under : a / t * t ≤ a = div-mul-le_self a t in
    le-div (a / t) b t some (omega arith)

-- more of the free space lies before a later child
before_grows : (free before factor total : ℕ) → 0 < total
    → free_before free before total ≤ free_before free (before + factor) total
before_grows free before factor total some =
    div_grows (free * before) (free * (before + factor)) total some (grind arith)

-- two quotients differ by what their dividends do, to within one
near : (t b d x y s : ℕ) → y + s ≡ x → x * t ≤ b + d → b + d < x * t + t → y * t ≤ b → b < y * t + t
    → (t * s < d + t) × (d < t * s + t)
near t b d x y s split x_low x_high y_low y_high =
    let parts : x * t ≡ y * t + t * s = rw (← split) (grind arith) in
    (omega arith, omega arith)

pub share_near : (free before factor total : ℕ) → 0 < total
    → (total * share_of free before factor total < free * factor + total)
    × (free * factor < total * share_of free before factor total + total)
share_near free before factor total some =
    let x : ℕ = free_before free (before + factor) total in
    let y : ℕ = free_before free before total in
    let grows : y ≤ x = before_grows free before factor total some in
    let dividends : free * (before + factor) ≡ free * before + free * factor = grind arith in
    let x_low : x * total ≤ free * before + free * factor =
    rw (← dividends) (div-mul-le_self (free * (before + factor)) total) in
    let x_high : free * before + free * factor < x * total + total =
    rw (← dividends) (lt-div-mul-add some) in
    near total (free * before) (free * factor) x y (x - y) (omega arith) x_low x_high
    (div-mul-le_self (free * before) total) (lt-div-mul-add some)

-- the shares of the children from some place on fill what lies after that place
shares_after-sum : (free total before : ℕ) (factors : List ℕ) → 0 < total
    → sum (shares_after free total before factors) + free_before free before total
    ≡ free_before free (before + sum factors) total
shares_after-sum free total before [] some =
    zero-add (free_before free before total) ∙ ap (λ n. free_before free n total) (sym (add-zero before))
shares_after-sum free total before (factor ∷ factors) some =
    let grows : free_before free before total ≤ free_before free (before + factor) total =
    before_grows free before factor total some in
    let rest : sum (shares_after free total (before + factor) factors) + free_before free (before + factor) total
    ≡ free_before free (before + factor + sum factors) total =
    shares_after-sum free total (before + factor) factors some in
    let all : sum (factor ∷ factors) ≡ factor + sum factors = sum_by-cons (λ n. n) factor factors in
    let same : free_before free (before + factor + sum factors) total
    ≡ free_before free (before + sum (factor ∷ factors)) total =
    ap (λ n. free_before free n total) (omega (arith, all)) in
    let first : sum (shares_after free total before (factor ∷ factors))
    ≡ share_of free before factor total + sum (shares_after free total (before + factor) factors) =
    sum_by-cons (λ n. n) (share_of free before factor total) (shares_after free total (before + factor) factors) in
    omega (arith, grows, rest, same, first)

pub shares_of-sum : (free : ℕ) (factors : List ℕ) → 0 < sum factors → sum (shares_of free factors) ≡ free
shares_of-sum free factors some =
    let all : sum (shares_of free factors) + free_before free 0 (sum factors)
    ≡ free_before free (0 + sum factors) (sum factors) =
    shares_after-sum free (sum factors) 0 factors some in
    let none : free_before free 0 (sum factors) ≡ 0 = omega arith in
    let whole : free_before free (0 + sum factors) (sum factors) ≡ free =
    ap (λ n. free * n / sum factors) (zero-add (sum factors)) ∙ mul-div_cancel free some in
    omega (arith, all, none, whole)
