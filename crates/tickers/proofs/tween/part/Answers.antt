use Rattle.std.proofs.Common.{◌≡◌, ap, ◌∙◌, ◌^◌, ℤ, w64, to_z, of_z}
use Rattle.std.proofs.Math.Facts.{to_z-of_z}
use mir.Syntax.{w128}
use mir.Val.{SFits}
use Rattle.tickers.specs.Tween.{part_of}
use Rattle.tickers.proofs.Parts.{part_lies, lies_high, lies_low, quotient_is, fits_short}
use Rattle.tickers.proofs.tween.part.Goals as goal

pub overflow_cast-result : goal.overflow_cast-result
overflow_cast-result c =
    let lies = part_lies c.args.way c.args.part c.args.whole c.requires.some c.requires.within in
    let z : ℤ = part_of c.args.way c.args.part c.args.whole in
    let fits : SFits w64 z =
    fits_short z (lies_low z c.args.way (2 ^ 41) lies c.requires.low) (lies_high z c.args.way (2 ^ 41) lies c.requires.high) in
    let is : c.div_euclid.result ≡ z =
    quotient_is c.args.way c.product.result c.div_euclid.result c.args.part c.args.whole c.ranges.way
    (record { sfits = c.product.type_inv }) c.requires.short c.product.ensures c.div_euclid.ensures in
    let back : to_z w128 (of_z w128 c.div_euclid.result) ≡ c.div_euclid.result =
    to_z-of_z {w = w128} {z = c.div_euclid.result} (record { sfits = c.div_euclid.type_inv }) in
    rw (back ∙ is) fits

pub returns-clause-value : goal.returns-clause-value
returns-clause-value c =
    let lies = part_lies c.args.way c.args.part c.args.whole c.requires.some c.requires.within in
    let z : ℤ = part_of c.args.way c.args.part c.args.whole in
    let fits : SFits w64 z =
    fits_short z (lies_low z c.args.way (2 ^ 41) lies c.requires.low) (lies_high z c.args.way (2 ^ 41) lies c.requires.high) in
    let is : c.div_euclid.result ≡ z =
    quotient_is c.args.way c.product.result c.div_euclid.result c.args.part c.args.whole c.ranges.way
    (record { sfits = c.product.type_inv }) c.requires.short c.product.ensures c.div_euclid.ensures in
    let back : to_z w128 (of_z w128 c.div_euclid.result) ≡ c.div_euclid.result =
    to_z-of_z {w = w128} {z = c.div_euclid.result} (record { sfits = c.div_euclid.type_inv }) in
    ap (λ y. to_z w64 (of_z w64 y)) (back ∙ is) ∙ to_z-of_z {w = w64} {z = z} fits

pub returns-clause-low : goal.returns-clause-low
returns-clause-low c =
    let lies = part_lies c.args.way c.args.part c.args.whole c.requires.some c.requires.within in
    let z : ℤ = part_of c.args.way c.args.part c.args.whole in
    rw (returns-clause-value c) (lies_low z c.args.way (2 ^ 41) lies c.requires.low)

pub returns-clause-high : goal.returns-clause-high
returns-clause-high c =
    let lies = part_lies c.args.way c.args.part c.args.whole c.requires.some c.requires.within in
    let z : ℤ = part_of c.args.way c.args.part c.args.whole in
    rw (returns-clause-value c) (lies_high z c.args.way (2 ^ 41) lies c.requires.high)
