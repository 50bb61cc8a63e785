-- Lengths. A length is a whole number of units from 0 to 2^40, or unbounded.
use Rattle.std.specs.Prelude.{◌≡◌, ℕ, ◌+◌, ◌-◌, ◌^◌, ◌≤◌, min, max, Bool, true, false, ◌==◌, Option, Some, None, List, sum}
use Rattle.std.proofs.Common.{arith}
use Rattle.fx_geom.specs.declared.lengths.Len.{Len}
use Rattle.fx_geom.specs.declared.lengths.Len.TheVariants.{Finite, Unbounded}

-- the greatest length that fits under this one
abbrev pub limit_of : Len → ℕ
limit_of (Finite n) = n
limit_of Unbounded = 2 ^ 40

-- a length past the greatest one stops there
abbrev pub stopped : ℕ → ℕ
stopped n = min n (2 ^ 40)

-- the sum of two lengths stops at the greatest one
abbrev pub length_sum : ℕ → ℕ → ℕ
length_sum a b = stopped (a + b)

-- the sum of some lengths, which stops at the greatest one
abbrev pub total_of : List ℕ → ℕ
total_of lengths = stopped (sum lengths)

-- a length that is given, else none
abbrev pub len_of : Option ℕ → Len
len_of (Some n) = Finite n
len_of None = Unbounded

-- the length itself where it is finite, else this other one
abbrev pub finite_or : Len → ℕ → ℕ
finite_or (Finite n) other = n
finite_or Unbounded other = other

-- there is a limit
abbrev pub is_bounded : Len → Bool
is_bounded (Finite n) = true
is_bounded Unbounded = false

-- the length is this finite one, for some number
abbrev pub IsFinite : Len → Type 0
IsFinite length = (n : ℕ) × (length ≡ Finite n)

-- a sum with an unbounded length is unbounded
abbrev pub len_sum : Len → Len → Len
len_sum (Finite a) (Finite b) = Finite (length_sum a b)
len_sum (Finite a) Unbounded = Unbounded
len_sum Unbounded b = Unbounded

-- a minimum and a maximum that allow one length alone
abbrev pub is_tight_side : ℕ → Len → Bool
is_tight_side least (Finite most) = least == most
is_tight_side least Unbounded = false

-- n raised to the least length allowed, after it was lowered to the greatest one
abbrev pub clamped : ℕ → Len → ℕ → ℕ
clamped low high n = max low (min n (limit_of high))

-- a given side has its value, clamped into the bounds, as minimum and as maximum
abbrev pub tightened_min : ℕ → Len → Option ℕ → ℕ
tightened_min low high None = low
tightened_min low high (Some n) = clamped low high n

abbrev pub tightened_max : ℕ → Len → Option ℕ → Len
tightened_max low high None = high
tightened_max low high (Some n) = Finite (clamped low high n)

-- a maximum clamped into the range from low to high
abbrev pub clamped_max : ℕ → Len → Len → Len
clamped_max low high (Finite n) = Finite (clamped low high n)
clamped_max low high Unbounded = high

-- a maximum less what is taken from it, not below 0
abbrev pub less : Len → ℕ → Len
less (Finite n) taken = Finite (n - taken)
less Unbounded taken = Unbounded

-- a maximum that is below its minimum is the minimum
abbrev pub raised : ℕ → Len → Len
raised low (Finite n) = Finite (max (stopped low) (stopped n))
raised low Unbounded = Unbounded

-- so each minimum is at most its maximum, and both are lengths
pub raised_order : (m : ℕ) (l : Len) → stopped m ≤ limit_of (raised m l)
raised_order m (Finite n) = omega arith
raised_order m Unbounded = omega arith

pub raised_range : (m : ℕ) (l : Len) → limit_of (raised m l) ≤ 2 ^ 40
raised_range m (Finite n) = omega arith
raised_range m Unbounded = omega arith
