-- When two asks are the same, and two frames.
use Rattle.std.specs.Prelude.{◌==◌, Bool, true, false, ◌&&◌, not, ◌||◌, Option, Some, None}
use Rattle.fx_geom.specs.declared.boxes.Bounds.{Bounds}
use Rattle.fx_geom.specs.declared.lengths.Len.{Len}
use Rattle.fx_geom.specs.declared.lengths.Len.TheVariants.{Finite, Unbounded}
use Rattle.fx_geom.specs.declared.shapes.Axis.{Axis}
use Rattle.fx_geom.specs.declared.shapes.Axis.TheVariants.{Horizontal, Vertical}
use Rattle.fx_geom.specs.declared.shapes.Size.{Size}
use Rattle.sliver_layout.specs.declared.protocol.Geometry.{Geometry}
use Rattle.sliver_layout.specs.declared.protocol.SliverBounds.{SliverBounds}
use Rattle.plain_tree.specs.declared.laid.Frame.{Frame}
use Rattle.plain_tree.specs.declared.laid.Frame.TheVariants.{Boxed, Sliver}
use Rattle.layout_form.specs.declared.asks.Ask.{Ask}
use Rattle.layout_form.specs.declared.asks.Ask.TheVariants.{AsBox, AsSliver}
use Rattle.layout_walk.specs.Node.{LayoutNode, asked}

abbrev pub same_len : Len → Len → Bool
same_len (Finite a) (Finite b) = a == b
same_len (Finite a) Unbounded = false
same_len Unbounded (Finite b) = false
same_len Unbounded Unbounded = true

abbrev pub same_axis : Axis → Axis → Bool
same_axis Horizontal Horizontal = true
same_axis Horizontal Vertical = false
same_axis Vertical Horizontal = false
same_axis Vertical Vertical = true

abbrev pub same_bounds : Bounds → Bounds → Bool
same_bounds a b = a.min_w == b.min_w && (same_len a.max_w b.max_w && (a.min_h == b.min_h && same_len a.max_h b.max_h))

abbrev pub same_view : SliverBounds → SliverBounds → Bool
same_view a b = same_axis a.axis b.axis && (a.offset == b.offset && (a.remaining == b.remaining && a.cross == b.cross))

abbrev pub same_ask : Ask → Ask → Bool
same_ask (AsBox a) (AsBox b) = same_bounds a b
same_ask (AsBox a) (AsSliver b) = false
same_ask (AsSliver a) (AsBox b) = false
same_ask (AsSliver a) (AsSliver b) = same_view a b

-- when two frames are
abbrev pub same_size : Size → Size → Bool
same_size a b = a.w == b.w && a.h == b.h

abbrev pub same_geometry : Geometry → Geometry → Bool
same_geometry a b = a.scroll == b.scroll && a.paint == b.paint

abbrev pub same_frame : Frame → Frame → Bool
same_frame (Boxed a size) (Boxed b other) = same_bounds a b && same_size size other
same_frame (Boxed a size) (Sliver b geometry) = false
same_frame (Sliver a geometry) (Boxed b size) = false
same_frame (Sliver a geometry) (Sliver b other) = same_view a b && same_geometry geometry other

abbrev pub has_frame : Option Frame → Option Frame → Bool
has_frame None o = false
has_frame (Some frame) None = false
has_frame (Some frame) (Some other) = same_frame frame other

abbrev pub asked_so : Option Ask → Ask → Bool
asked_so None ask = false
asked_so (Some before) ask = same_ask before ask

-- a node that is asked so has its rule run: it has to be laid out, or was asked in other bounds before
abbrev pub is_due : LayoutNode → Ask → Bool
is_due v ask = v.needs_layout || not (asked_so (asked v) ask)
