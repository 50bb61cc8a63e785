-- Whole numbers of 64 bits: what would leave their range stops at its end, and a quotient is rounded down.
use Rattle.std.specs.Prelude.{ℕ, ◌/◌, zero, suc, ℤ, pos, negsuc, ◌-ℤ◌, ◌*ℤ◌, min, List, map}
use Rattle.std.specs.Int.{w64, saturate_signed}
use Rattle.std.specs.List.{range_with_len}

-- the number of 64 bits that is nearest to z
abbrev pub saturated : ℤ → ℤ
saturated z = saturate_signed w64 z

-- a / b, rounded towards minus infinity; 0 where b is 0
abbrev pub floor_div : ℤ → ℤ → ℤ
floor_div a (pos zero) = pos 0
floor_div (pos a) (pos (suc b)) = pos (a / suc b)
floor_div (negsuc a) (pos (suc b)) = negsuc (a / suc b)
floor_div (pos zero) (negsuc b) = pos 0
floor_div (pos (suc a)) (negsuc b) = negsuc (a / suc b)
floor_div (negsuc a) (negsuc b) = pos (suc a / suc b)

-- what the quotient rounded down leaves of a; 0 where b is 0
abbrev pub floor_mod : ℤ → ℤ → ℤ
floor_mod a (pos zero) = pos 0
floor_mod a b = a -ℤ (b *ℤ floor_div a b)

-- n as a number of items: 0 where it is negative, and at most 4,096
abbrev pub item_limit : ℤ → ℕ
item_limit (pos n) = min n 4096
item_limit (negsuc n) = 0

-- the numbers from 0 on, as many as n says
abbrev pub range_of : ℤ → List ℤ
range_of n = map pos (range_with_len 0 (item_limit n))
