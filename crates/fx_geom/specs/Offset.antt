-- Offsets. The sum of two offsets is clamped to -2^50..=2^50 on each axis.
use Rattle.std.specs.Prelude.{ℕ, ℤ, pos, neg_ℤ, ◌+ℤ◌, ◌≤ℤ◌, ◌<ℤ◌, ◌^◌, Bool, ◌&&◌, int_le, int_lt}
use Rattle.std.specs.Int.{int_min, int_max}
use Rattle.fx_geom.specs.declared.shapes.Insets.{Insets}
use Rattle.fx_geom.specs.declared.shapes.Offset.{Offset}
use Rattle.fx_geom.specs.declared.shapes.Size.{Size}
use Rattle.fx_geom.specs.Len.{stopped}

-- no offset: the place of the parent itself (Offset.zero)
abbrev pub origin : Offset
origin = record { x = pos 0; y = pos 0 }

-- one side of a sum of offsets
abbrev pub side_sum : ℤ → ℤ → ℤ
side_sum a b = int_max (neg_ℤ (pos (2 ^ 50))) (int_min (a +ℤ b) (pos (2 ^ 50)))

-- the sum of two offsets
abbrev pub offset_sum : Offset → Offset → Offset
offset_sum a b = record { x = side_sum a.x b.x; y = side_sum a.y b.y }

-- a placement lies in -2^40..=2^40
abbrev pub IsPlacement : ℤ → Type 0
IsPlacement z = (neg_ℤ (pos (2 ^ 40)) ≤ℤ z) × (z ≤ℤ pos (2 ^ 40))

-- the placement that is nearest to z
abbrev pub placement_of : ℤ → ℤ
placement_of z = int_max (neg_ℤ (pos (2 ^ 40))) (int_min z (pos (2 ^ 40)))

-- an offset with both sides clamped to placements
abbrev pub offset_clamped : Offset → Offset
offset_clamped o = record { x = placement_of o.x; y = placement_of o.y }

-- both sides of an offset are placements
pub record IsPlaced (o : Offset) : Type 0 where
  pub x : IsPlacement o.x
  pub y : IsPlacement o.y

-- where the content of insets begins (EdgeInsets.topLeft); an inset is a length, which stops at 2^40
abbrev pub top_left_of : Insets → Offset
top_left_of i = record { x = pos (stopped i.left); y = pos (stopped i.top) }

-- a place along an extent is at least 0 and before its end
abbrev pub lies_before : ℤ → ℕ → Bool
lies_before place extent = int_le (pos 0) place && int_lt place (pos extent)

-- the point lies in a box of this size, whose left upper corner is the origin: the near edges are inside, the far ones
-- outside (Size.contains)
abbrev pub contains : Size → Offset → Bool
contains s p = lies_before p.x s.w && lies_before p.y s.h

-- the same as a fact
pub record IsInside (s : Size) (p : Offset) : Type 0 where
  pub from_left : pos 0 ≤ℤ p.x
  pub before_right : p.x <ℤ pos s.w
  pub from_top : pos 0 ≤ℤ p.y
  pub before_bottom : p.y <ℤ pos s.h
