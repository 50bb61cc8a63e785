-- Insets and sizes along an axis (EdgeInsets of Flutter).
use Rattle.std.specs.Prelude.{ℕ}
use Rattle.fx_geom.specs.declared.shapes.Axis.{Axis}
use Rattle.fx_geom.specs.declared.shapes.Axis.TheVariants.{Horizontal, Vertical}
use Rattle.fx_geom.specs.declared.shapes.Insets.{Insets}
use Rattle.fx_geom.specs.declared.shapes.Size.{Size}
use Rattle.fx_geom.specs.Len.{length_sum}

-- the axis across this one
abbrev pub other_of : Axis → Axis
other_of Horizontal = Vertical
other_of Vertical = Horizontal

-- how long a size is along an axis
abbrev pub extent_of : Size → Axis → ℕ
extent_of s Horizontal = s.w
extent_of s Vertical = s.h

-- the inset at the start of an axis
abbrev pub before : Insets → Axis → ℕ
before i Horizontal = i.left
before i Vertical = i.top

-- the inset at the end of an axis
abbrev pub after : Insets → Axis → ℕ
after i Horizontal = i.right
after i Vertical = i.bottom

-- what the insets take from an axis (EdgeInsets.along)
abbrev pub along : Insets → Axis → ℕ
along i axis = length_sum (before i axis) (after i axis)

-- a size with the insets around it (EdgeInsets.inflateSize)
abbrev pub inflated : Insets → Size → Size
inflated i s = record { w = length_sum s.w (along i Horizontal); h = length_sum s.h (along i Vertical) }
