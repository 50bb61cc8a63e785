-- Lists of children of one extent x (RenderSliverFixedExtentBoxAdaptor): child i has the stretch from i*x to before
-- (i+1)*x.
use Rattle.std.specs.Prelude.{ℕ, ℤ, pos, ◌-ℤ◌, ◌+◌, ◌-◌, ◌*◌, ◌/◌, ◌<◌, ◌≤◌, ◌==◌, nat_lt, if◌then◌else◌, min}
use Rattle.std.specs.Int.{div_ceil}
use Rattle.fx_geom.specs.Len.{stopped}
use Rattle.sliver_layout.specs.declared.protocol.Geometry.{Geometry}
use Rattle.sliver_layout.specs.declared.protocol.SliverBounds.{SliverBounds}
use Rattle.sliver_layout.specs.declared.protocol.Window.{Window}
use Rattle.sliver_layout.specs.Slivers.{geometry_of}

-- child i is among these children
abbrev pub IsAmong : Window → ℕ → Type 0
IsAmong w i = (w.first ≤ i) × (i < w.end)

-- the stretch of child i and the one from low to before high have a place in common
pub record Meets (i x low high : ℕ) : Type 0 where
  pub place : ℕ
  pub from_start : i * x ≤ place
  pub before_end : place < (i + 1) * x
  pub from_low : low ≤ place
  pub before_high : place < high

-- no children
abbrev pub nothing : Window
nothing = record { first = 0; end = 0 }

-- of n children, those from the one whose stretch has the place low to the last one that begins before high
abbrev pub children_between : ℕ → ℕ → ℕ → ℕ → Window
children_between low high x n =
    if nat_lt (low / x) (min n (div_ceil high x))
    then record { first = low / x; end = min n (div_ceil high x) }
    else nothing

-- the children that are seen
abbrev pub window_of : SliverBounds → ℕ → ℕ → Window
window_of b x n =
    if b.remaining == 0 then nothing else children_between b.offset (b.offset + b.remaining) x n

-- the children that are kept alive: those that are seen in a view that reaches further on both sides
abbrev pub live_of : SliverBounds → ℕ → ℕ → ℕ → Window
live_of b x n widen =
    if b.remaining == 0
    then nothing
    else children_between (b.offset - widen) (b.offset + b.remaining + widen) x n

-- what a list of n children gives: their extents together, which stop at 2^40
abbrev pub list_geometry_of : SliverBounds → ℕ → ℕ → Geometry
list_geometry_of b x n = geometry_of b (stopped (n * x))

-- where child i stands on the main axis: its place in the list, which stops at 2^40, less what is scrolled off
abbrev pub item_place_of : SliverBounds → ℕ → ℕ → ℤ
item_place_of b x i = pos (stopped (i * x)) -ℤ pos b.offset
