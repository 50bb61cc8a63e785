-- Sizes, offsets and bounds by an axis: the main extent lies along it, the cross extent along the other one.
use Rattle.std.specs.Prelude.{ℕ, ℤ, Bool}
use Rattle.fx_geom.specs.declared.boxes.Bounds.{Bounds}
use Rattle.fx_geom.specs.declared.lengths.Len.{Len}
use Rattle.fx_geom.specs.declared.shapes.Axis.{Axis}
use Rattle.fx_geom.specs.declared.shapes.Axis.TheVariants.{Horizontal, Vertical}
use Rattle.fx_geom.specs.declared.shapes.Offset.{Offset}
use Rattle.fx_geom.specs.declared.shapes.Size.{Size}
use Rattle.fx_geom.specs.Bounds.{bounds_of}
use Rattle.fx_geom.specs.Len.{is_tight_side}

-- the size with this extent along the axis and that one across
abbrev pub size_along : Axis → ℕ → ℕ → Size
size_along Horizontal main cross = record { w = main; h = cross }
size_along Vertical main cross = record { w = cross; h = main }

-- the offset by so much along the axis and so much across
abbrev pub offset_along : Axis → ℤ → ℤ → Offset
offset_along Horizontal main cross = record { x = main; y = cross }
offset_along Vertical main cross = record { x = cross; y = main }

-- how far an offset goes along an axis
abbrev pub place_along : Offset → Axis → ℤ
place_along o Horizontal = o.x
place_along o Vertical = o.y

-- the bounds with this minimum and maximum along the axis, and these across
abbrev pub bounds_along : Axis → ℕ → Len → ℕ → Len → Bounds
bounds_along Horizontal min_main max_main min_cross max_cross = bounds_of min_main max_main min_cross max_cross
bounds_along Vertical min_main max_main min_cross max_cross = bounds_of min_cross max_cross min_main max_main

-- the least extent that the bounds allow along an axis
abbrev pub least_along : Bounds → Axis → ℕ
least_along b Horizontal = b.min_w
least_along b Vertical = b.min_h

-- the greatest one
abbrev pub most_along : Bounds → Axis → Len
most_along b Horizontal = b.max_w
most_along b Vertical = b.max_h

-- the bounds allow exactly one extent along an axis (BoxConstraints.hasTightWidth, hasTightHeight)
abbrev pub is_tight_along : Bounds → Axis → Bool
is_tight_along b axis = is_tight_side (least_along b axis) (most_along b axis)
