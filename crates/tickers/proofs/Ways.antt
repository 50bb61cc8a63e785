-- Where a tween is at its start, at its end and in between.
use Rattle.std.proofs.Common.{◌≡◌, refl, ap, ◌∙◌, inl, inr, ℕ, zero, suc, ◌+◌, ◌-◌, ◌*◌, ◌/◌, ◌<◌, ◌≤◌, ℤ, pos, negsuc, neg_ℤ, ◌+ℤ◌, ◌-ℤ◌, arith}
use Rattle.std.specs.Int.{int_div_euclid}
use Rattle.std.proofs.lemmas.Int.{ints}
use Rattle.std.proofs.lemmas.Nat.{div-mul-add}
use Rattle.std.proofs.Math.Nat.{mul-div_left, mul-le-mul}
use Rattle.tickers.specs.declared.tween.Curve.{Curve}
use Rattle.tickers.specs.declared.tween.Curve.TheVariants.{Linear, EaseIn, EaseOut}
use Rattle.tickers.specs.Tween.{part_of, value_along, LiesFrom}
use Rattle.tickers.proofs.Parts.{quotient_within, part_lies}

none_below : (m w : ℕ) → m ≡ 0 → int_div_euclid (neg_ℤ (pos m)) (pos w) ≡ pos 0
none_below zero w none =
    let least : 0 / w ≤ 0 = quotient_within 0 0 w (omega arith) in
    ap pos (omega arith)
none_below (suc m) w none = cc

-- no part of a way is nothing
pub part_none : (way : ℤ) (whole : ℕ) → part_of way 0 whole ≡ pos 0
part_none (pos n) whole =
    let product : n * 0 ≡ 0 = omega arith in
    let least : 0 / whole ≤ 0 = quotient_within 0 0 whole (omega arith) in
    ap (λ m. pos (m / whole)) product ∙ ap pos (omega arith)
part_none (negsuc n) whole = none_below (suc n * 0) whole (omega arith)

whole_below : (m n w : ℕ) → 0 < w → m ≡ suc n * w → int_div_euclid (neg_ℤ (pos m)) (pos w) ≡ negsuc n
whole_below zero n w some is =
    let more : suc n * w ≡ n * w + w = grind arith in
    absurd (omega arith)
whole_below (suc m) n w some is =
    let more : suc n * w ≡ n * w + w = grind arith in
    let parts : m ≡ n * w + (w - 1) = omega arith in
    ap (λ k. negsuc (k / w)) parts ∙ ap negsuc (div-mul-add n w (w - 1) (omega arith))

-- the whole of a way is the way
pub part_whole : (way : ℤ) (whole : ℕ) → 0 < whole → part_of way whole whole ≡ way
part_whole (pos n) whole some = ap pos (mul-div_left n some)
part_whole (negsuc n) whole some = whole_below (suc n * whole) n whole some refl

sum_lies : (from to z : ℤ) → LiesFrom (pos 0) (to -ℤ from) z → LiesFrom from to (from +ℤ z)
sum_lies from to z (inl h) = inl (omega (arith, ints), omega (arith, ints))
sum_lies from to z (inr h) = inr (omega (arith, ints), omega (arith, ints))

difference_lies : (from to z : ℤ) → LiesFrom (pos 0) (to -ℤ from) z → LiesFrom from to (to -ℤ z)
difference_lies from to z (inl h) = inl (omega (arith, ints), omega (arith, ints))
difference_lies from to z (inr h) = inr (omega (arith, ints), omega (arith, ints))

some_square : (ms : ℕ) → 1 ≤ ms → 0 < ms * ms
some_square ms some =
    let more : 1 * 1 ≤ ms * ms = mul-le-mul some some in
    omega arith

pub value_first : (curve : Curve) (from to : ℤ) (ms : ℕ) → 1 ≤ ms → value_along curve from to 0 ms ≡ from
value_first Linear from to ms some = ap (λ z. from +ℤ z) (part_none (to -ℤ from) ms) ∙ omega (arith, ints)
value_first EaseIn from to ms some = ap (λ z. from +ℤ z) (part_none (to -ℤ from) (ms * ms)) ∙ omega (arith, ints)
value_first EaseOut from to ms some =
    let left : ms - 0 ≡ ms = omega arith in
    ap (λ m. to -ℤ part_of (to -ℤ from) (m * m) (ms * ms)) left
    ∙ ap (λ z. to -ℤ z) (part_whole (to -ℤ from) (ms * ms) (some_square ms some)) ∙ omega (arith, ints)

pub value_last : (curve : Curve) (from to : ℤ) (ms : ℕ) → 1 ≤ ms → value_along curve from to ms ms ≡ to
value_last Linear from to ms some =
    ap (λ z. from +ℤ z) (part_whole (to -ℤ from) ms (omega arith)) ∙ omega (arith, ints)
value_last EaseIn from to ms some =
    ap (λ z. from +ℤ z) (part_whole (to -ℤ from) (ms * ms) (some_square ms some)) ∙ omega (arith, ints)
value_last EaseOut from to ms some =
    let left : ms - ms ≡ 0 = omega arith in
    ap (λ m. to -ℤ part_of (to -ℤ from) (m * m) (ms * ms)) left
    ∙ ap (λ z. to -ℤ z) (part_none (to -ℤ from) (ms * ms)) ∙ omega (arith, ints)

pub value_between : (curve : Curve) (from to : ℤ) (over ms : ℕ) → 1 ≤ ms → over ≤ ms
    → LiesFrom from to (value_along curve from to over ms)
value_between Linear from to over ms some within =
    sum_lies from to (part_of (to -ℤ from) over ms) (part_lies (to -ℤ from) over ms (omega arith) within)
value_between EaseIn from to over ms some within =
    sum_lies from to (part_of (to -ℤ from) (over * over) (ms * ms))
    (part_lies (to -ℤ from) (over * over) (ms * ms) (some_square ms some) (mul-le-mul within within))
value_between EaseOut from to over ms some within =
    let left : ms - over ≤ ms = omega arith in
    difference_lies from to (part_of (to -ℤ from) ((ms - over) * (ms - over)) (ms * ms))
    (part_lies (to -ℤ from) ((ms - over) * (ms - over)) (ms * ms) (some_square ms some) (mul-le-mul left left))
