-- Sizes.
use Rattle.std.specs.Prelude.{◌^◌, ◌≤◌}
use Rattle.fx_geom.specs.declared.shapes.Size.{Size}

-- no extent at all (Size.zero)
abbrev pub no_size : Size
no_size = record { w = 0; h = 0 }

-- both sides of a size are lengths
pub record HasLengths (s : Size) : Type 0 where
  pub w : s.w ≤ 2 ^ 40
  pub h : s.h ≤ 2 ^ 40
