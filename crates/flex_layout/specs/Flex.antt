-- The free space of a Row or a Column, shared among its flexible children (RenderFlex.performLayout), and the places
-- of a child in an outer extent (Alignment.alongSize, CrossAxisAlignment).
use Rattle.std.specs.Prelude.{ℕ, ℤ, ◌+◌, ◌-◌, ◌*◌, ◌/◌, ◌^◌, ◌≤◌, pos, ◌+ℤ◌, ◌-ℤ◌, ◌*ℤ◌, List, [], ◌∷◌, length, sum, All}
use Rattle.std.specs.Int.{div_ceil, int_div_euclid}
use Rattle.fx_geom.specs.declared.words.CrossAlign.{CrossAlign}
use Rattle.fx_geom.specs.declared.words.CrossAlign.TheVariants.{Start, End, Center, Stretch}
use Rattle.fx_geom.specs.Len.{stopped}

-- how much of the free space lies before a child, where the factors before it sum to c and all factors to total
abbrev pub free_before : ℕ → ℕ → ℕ → ℕ
free_before free c total = free * c / total

-- the share of a child: what lies before the next child less what lies before this one
abbrev pub share_of : ℕ → ℕ → ℕ → ℕ → ℕ
share_of free before factor total = free_before free (before + factor) total - free_before free before total

-- the shares of the children with these factors, where the factors before them sum to c
abbrev pub shares_after : ℕ → ℕ → ℕ → List ℕ → List ℕ
shares_after free total c [] = []
shares_after free total c (factor ∷ factors) =
    share_of free c factor total ∷ shares_after free total (c + factor) factors

-- the shares of all children of a Row or a Column, in tree order; a child with factor 0 gets 0
abbrev pub shares_of : ℕ → List ℕ → List ℕ
shares_of free factors = shares_after free (sum factors) 0 factors

-- factors of children: each is at most 1,000,000, and there are at most 2^44, so that their sum is below 2^64
pub record AreFactors (factors : List ℕ) : Type 0 where
  pub small : All (λ factor. factor ≤ 1000000) factors
  pub few : length factors ≤ 2 ^ 44

-- the least main extent in which a child with this factor among factors with this total has at least its own extent, where
-- shares aren't rounded (RenderFlex.computeMaxIntrinsicWidth); it stops at the greatest length
abbrev pub flex_extent_of : ℕ → ℕ → ℕ → ℕ
flex_extent_of extent factor total = stopped (div_ceil (extent * total) factor)

-- the greatest whole number that is at most z over n
abbrev pub floor_over : ℤ → ℕ → ℤ
floor_over z n = int_div_euclid z (pos n)

-- what an outer extent leaves beside an inner one; it is negative where the inner one is longer
abbrev pub room_of : ℕ → ℕ → ℤ
room_of outer inner = pos outer -ℤ pos inner

-- where a child stands at an alignment from -100 to 100
abbrev pub align_of : ℕ → ℕ → ℤ → ℤ
align_of outer inner a = floor_over (room_of outer inner *ℤ (pos 100 +ℤ a)) 200

-- where a child stands across the main axis
abbrev pub cross_of : CrossAlign → ℕ → ℕ → ℤ
cross_of Start outer inner = pos 0
cross_of End outer inner = room_of outer inner
cross_of Center outer inner = floor_over (room_of outer inner) 2
cross_of Stretch outer inner = pos 0
