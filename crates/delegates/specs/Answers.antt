-- What a delegate of a meaning answers.
use Rattle.std.specs.Prelude.{ℕ, zero, suc, ◌+◌, ◌-◌, ◌*◌, ◌/◌, ◌^◌, ℤ, pos, negsuc, ◌-ℤ◌, min, max, ◌&&◌, nat_lt, if◌then◌else◌, Option, Some, None, List, [], ◌∷◌, ◌++◌}
use Rattle.fx_geom.specs.declared.boxes.Bounds.{Bounds}
use Rattle.fx_geom.specs.declared.shapes.Offset.{Offset}
use Rattle.fx_geom.specs.declared.shapes.Size.{Size}
use Rattle.fx_geom.specs.Bounds.{smallest, loosen}
use Rattle.fx_geom.specs.Len.{finite_or}
use Rattle.fx_geom.specs.Offset.{origin}
use Rattle.draw_records.specs.declared.record.Record.{Record}
use Rattle.draw_records.specs.declared.record.Record.TheVariants.{Fill}
use Rattle.delegates.specs.Meaning.{Meaning, bars, grid, corner}

-- a number as one from 0 to a greatest one
abbrev pub clamped : ℕ → ℤ → ℕ
clamped greatest (pos n) = min n greatest
clamped greatest (negsuc n) = 0

-- the size that a delegate takes within bounds: the least, or for a corner the maximum of each side that is bounded
abbrev pub own_size_of : Meaning → Bounds → Size
own_size_of (bars count color) b = smallest b
own_size_of (grid step color) b = smallest b
own_size_of (corner dx dy) b = record { w = finite_or b.max_w b.min_w; h = finite_or b.max_h b.min_h }

-- the bounds that its child gets
abbrev pub child_bounds_of : Meaning → Bounds → Bounds
child_bounds_of (bars count color) b = b
child_bounds_of (grid step color) b = loosen b
child_bounds_of (corner dx dy) b = loosen b

-- where its child stands: at the origin, or in the right lower corner, dx to the left and dy up
abbrev pub place_of : Meaning → Size → Size → Offset
place_of (bars count color) size child = origin
place_of (grid step color) size child = origin
place_of (corner dx dy) size child = record { x = pos size.w -ℤ pos child.w -ℤ dx; y = pos size.h -ℤ pos child.h -ℤ dy }

-- a filled rectangle
abbrev pub filled : ℕ → ℕ → ℕ → ℕ → ℕ → Record
filled x y w h color = Fill (record { at = record { x = pos x; y = pos y }; size = record { w = w; h = h } }) color

-- bar i of n, where it isn't empty: it stands on the bottom, and the bars rise from left to right
abbrev pub bar : Size → ℕ → ℕ → ℕ → List Record
bar size n color i =
    let left = size.w * i / n in
    let right = size.w * (i + 1) / n in
    let high = size.h * (i + 1) / n in
    if nat_lt left right && nat_lt 0 high then filled left (size.h - high) (right - left) high color ∷ [] else []

-- the first of n bars, so many
abbrev pub bars_of : Size → ℕ → ℕ → ℕ → List Record
bars_of size n color zero = []
bars_of size n color (suc i) = bars_of size n color i ++ bar size n color i

-- line k of a grid, where it lies in the size and this has a width
abbrev pub line : Size → ℕ → ℕ → ℕ → List Record
line size step color k = if nat_lt 0 size.w && nat_lt (k * step) size.h then filled 0 (k * step) size.w 64 color ∷ [] else []

-- the lines of a grid from the first on, so many of them
unfoldable pub lines_of : Size → ℕ → ℕ → ℕ → List Record
lines_of size step color zero = []
lines_of size step color (suc k) = lines_of size step color k ++ line size step color (k + 1)

-- what a delegate draws at a size, at most 256 records
abbrev pub records_of : Meaning → Size → List Record
records_of (bars count color) size = let n = clamped 256 count in bars_of size n (clamped (2 ^ 32 - 1) color) n
records_of (grid step color) size = lines_of size (max 1 (clamped (2 ^ 40) step)) (clamped (2 ^ 32 - 1) color) 256
records_of (corner dx dy) size = []

-- the same of a delegate that may not be there: it draws nothing
abbrev pub records_at : Option Meaning → Size → List Record
records_at None size = []
records_at (Some m) size = records_of m size
