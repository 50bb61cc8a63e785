-- The positioned children of a Stack (RenderStack, StackParentData).
use Rattle.std.specs.Prelude.{◌≡◌, ℕ, ℤ, pos, negsuc, ◌-ℤ◌, ◌^◌, min, Option, Some, None, unwrap_or}
use Rattle.fx_geom.specs.declared.boxes.Bounds.{Bounds}
use Rattle.fx_geom.specs.declared.lengths.Len.{Len}
use Rattle.fx_geom.specs.declared.lengths.Len.TheVariants.{Finite}
use Rattle.fx_geom.specs.declared.shapes.Offset.{Offset}
use Rattle.fx_geom.specs.declared.shapes.Size.{Size}
use Rattle.fx_geom.specs.declared.words.Placed.{Placed}
use Rattle.fx_geom.specs.Bounds.{bounds_of}
use Rattle.fx_geom.specs.Len.{len_of}
use Rattle.flex_layout.specs.Flex.{align_of}

-- a signed extent clamped to 0..=2^40
abbrev pub extent_from : ℤ → ℕ
extent_from (pos n) = min n (2 ^ 40)
extent_from (negsuc n) = 0

-- the extent that a positioned child must have: what both edges leave of the stack, else its own extent, if given
abbrev pub given_extent : ℕ → Option ℤ → Option ℤ → Option ℕ → Option ℕ
given_extent outer (Some start) (Some end) own = Some (extent_from (pos outer -ℤ start -ℤ end))
given_extent outer (Some start) None own = own
given_extent outer None end own = own

-- a minimum and a maximum that allow this extent alone
abbrev pub IsExactly : ℕ → Len → ℕ → Type 0
IsExactly low high extent = (low ≡ extent) × (high ≡ Finite extent)

-- the bounds of a positioned child: a given extent is minimum and maximum; else it may have any
abbrev pub placed_of : Placed → Size → Bounds
placed_of p stack =
    let w = given_extent stack.w p.left p.right p.width in
    let h = given_extent stack.h p.top p.bottom p.height in
    bounds_of (unwrap_or w 0) (len_of w) (unwrap_or h 0) (len_of h)

-- where a child of this extent stands on an axis: at its start edge, else at its end edge, else by the alignment
abbrev pub place_of : ℕ → ℕ → Option ℤ → Option ℤ → ℤ → ℤ
place_of outer inner (Some start) end a = start
place_of outer inner None (Some end) a = pos outer -ℤ end -ℤ pos inner
place_of outer inner None None a = align_of outer inner a

-- where a positioned child of this size stands
abbrev pub placed_offset : Placed → Size → Size → ℤ → ℤ → Offset
placed_offset p stack child ax ay =
    record { x = place_of stack.w child.w p.left p.right ax; y = place_of stack.h child.h p.top p.bottom ay }
