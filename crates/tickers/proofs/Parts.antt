-- A part of a way, rounded down, lies between nothing and the whole way.
use Rattle.std.proofs.Common.{◌≡◌, ap, ◌∙◌, inl, inr, ℕ, zero, suc, ◌*◌, ◌/◌, ◌^◌, ◌<◌, ◌≤◌, ℤ, pos, negsuc, neg_ℤ, ◌*ℤ◌, ◌≤ℤ◌, w64, to_z, of_z, arith}
use Rattle.std.specs.Int.{int_div_euclid}
use Rattle.std.proofs.lemmas.Int.{ints}
use Rattle.std.proofs.Math.Nat.{div-le_of_le-mul, div-lt_iff_lt-mul, mul-le-mul_left}
use Rattle.std.proofs.Math.Facts.{to_z-of_z, to_z_pos}
use mir.Syntax.{w128}
use mir.Val.{SFits}
use Rattle.tickers.specs.Tween.{part_of, LiesFrom}

-- a quotient of at most so many times the divisor is at most so much
pub quotient_within : (a n w : ℕ) → a ≤ w * n → a / w ≤ n
quotient_within a n w below = div-le_of_le-mul w below

-- one of less than one time more is at most so much
pub quotient_below : (a n w : ℕ) → 0 < w → a < suc n * w → a / w ≤ n
quotient_below a n w some below =
    let fewer : a / w < suc n = (div-lt_iff_lt-mul {k = w} {x = a} {y = suc n} some).1 below in
    omega arith

-- the same below 0
pub part_below : (m n w : ℕ) → 0 < w → m ≤ suc n * w → LiesFrom (pos 0) (negsuc n) (int_div_euclid (neg_ℤ (pos m)) (pos w))
part_below zero n w some below =
    let least : 0 / w ≤ 0 = quotient_within 0 0 w (omega arith) in
    inr (omega (arith, ints), omega (arith, ints))
part_below (suc m) n w some below =
    let most : m / w ≤ n = quotient_below m n w some (omega arith) in
    inr (omega (arith, ints), omega (arith, ints))

pub part_lies : (way : ℤ) (part whole : ℕ) → 0 < whole → part ≤ whole → LiesFrom (pos 0) way (part_of way part whole)
part_lies (pos n) part whole some within =
    let more : n * part ≤ n * whole = mul-le-mul_left n within in
    let turned : n * whole ≡ whole * n = grind arith in
    let most : n * part / whole ≤ n = quotient_within (n * part) n whole (omega arith) in
    inl (omega (arith, ints), omega (arith, ints))
part_lies (negsuc n) part whole some within =
    part_below (suc n * part) n whole some (mul-le-mul_left (suc n) within)

-- what lies between nothing and a way of at most so much is at most so much
pub lies_high : (z way : ℤ) (n : ℕ) → LiesFrom (pos 0) way z → way ≤ℤ pos n → z ≤ℤ pos n
lies_high z way n (inl h) high = omega (arith, ints)
lies_high z way n (inr h) high = omega (arith, ints)

pub lies_low : (z way : ℤ) (n : ℕ) → LiesFrom (pos 0) way z → neg_ℤ (pos n) ≤ℤ way → neg_ℤ (pos n) ≤ℤ z
lies_low z way n (inl h) low = omega (arith, ints)
lies_low z way n (inr h) low = omega (arith, ints)

-- the quotient of the code is the part, though its words are wider
pub quotient_is : (way product q : ℤ) (part whole : ℕ) → SFits w64 way → SFits w128 product → whole ≤ 1000000000000000000
    → product ≡ to_z w64 (of_z w64 way) *ℤ pos part
    → q ≡ int_div_euclid (to_z w128 (of_z w128 product)) (to_z w128 whole)
    → q ≡ part_of way part whole
quotient_is way product q part whole way_fits product_fits short times is =
    let back : to_z w64 (of_z w64 way) ≡ way = to_z-of_z {w = w64} {z = way} way_fits in
    let wide : to_z w128 (of_z w128 product) ≡ product = to_z-of_z {w = w128} {z = product} product_fits in
    let divisor : to_z w128 whole ≡ pos whole = to_z_pos w128 {n = whole} (omega arith) in
    is ∙ ap (λ z. int_div_euclid z (to_z w128 whole)) (wide ∙ times ∙ ap (λ z. z *ℤ pos part) back)
    ∙ ap (λ d. int_div_euclid (way *ℤ pos part) d) divisor

pub fits_short : (z : ℤ) → neg_ℤ (pos (2 ^ 41)) ≤ℤ z → z ≤ℤ pos (2 ^ 41) → SFits w64 z
fits_short z low high = omega (arith, ints)
