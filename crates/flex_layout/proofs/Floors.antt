-- Signed quotients, rounded down.
use Rattle.std.proofs.Common.{◌≡◌, ap, ◌+◌, ◌*◌, ℤ, pos, negsuc, ◌+ℤ◌, ◌*ℤ◌, ◌≤ℤ◌, ◌<ℤ◌, arith}
use Rattle.std.proofs.lemmas.Int.{ints}
use Rattle.flex_layout.specs.Flex.{floor_over}

pub floor_below : (z : ℤ) → (pos 200 *ℤ floor_over z 200) ≤ℤ z
floor_below (pos n) = omega (arith, ints)
floor_below (negsuc n) = omega (arith, ints)

pub floor_above : (z : ℤ) → z <ℤ (pos 200 *ℤ floor_over z 200 +ℤ pos 200)
floor_above (pos n) = omega (arith, ints)
floor_above (negsuc n) = omega (arith, ints)

-- a whole number of times 200 has that number as its quotient
pub floor_exact : (z : ℤ) → floor_over (z *ℤ pos 200) 200 ≡ z
floor_exact (pos n) = omega (arith, ints)
floor_exact (negsuc n) =
    let product : negsuc n *ℤ pos 200 ≡ negsuc (n * 200 + 199) = omega (arith, ints) in
    rw product (ap negsuc (omega arith))

-- half of it in hundreds is the half
pub floor_half : (z : ℤ) → floor_over (z *ℤ pos 100) 200 ≡ floor_over z 2
floor_half (pos n) = omega (arith, ints)
floor_half (negsuc n) =
    let product : negsuc n *ℤ pos 100 ≡ negsuc (n * 100 + 99) = omega (arith, ints) in
    rw product (ap negsuc (omega arith))
