-- Slivers (RenderSliver of Flutter). A sliver is seen from the scroll offset a on, over the remaining extent r.
use Rattle.std.specs.Prelude.{ℕ, ℤ, pos, neg_ℤ, ◌+◌, ◌-◌, min, max, Option, Some, None}
use Rattle.fx_geom.specs.declared.shapes.Axis.{Axis}
use Rattle.fx_geom.specs.declared.shapes.Insets.{Insets}
use Rattle.fx_geom.specs.Insets.{other_of, before, after, along}
use Rattle.fx_geom.specs.Len.{stopped}
use Rattle.sliver_layout.specs.declared.protocol.Geometry.{Geometry}
use Rattle.sliver_layout.specs.declared.protocol.SliverBounds.{SliverBounds}
use Rattle.sliver_layout.specs.declared.protocol.Walk.{Walk}

-- the place in a sliver that is nearest to this one and is seen
abbrev pub seen : SliverBounds → ℕ → ℕ
seen b place = max b.offset (min place (b.offset + b.remaining))

-- how much of the stretch of a sliver between two places is painted (RenderSliver.calculatePaintOffset)
abbrev pub paint_offset_of : SliverBounds → ℕ → ℕ → ℕ
paint_offset_of b from to = min (seen b to - seen b from) b.remaining

-- what a sliver gives whose whole stretch has this extent: it can all be scrolled through, and what is seen is painted
abbrev pub geometry_of : SliverBounds → ℕ → Geometry
geometry_of b extent = record { scroll = extent; paint = paint_offset_of b 0 extent }

-- what a SliverToBox gives around a child of this extent, or without a child (RenderSliverToBoxAdapter.performLayout)
abbrev pub box_geometry_of : SliverBounds → Option ℕ → Geometry
box_geometry_of b (Some extent) = geometry_of b extent
box_geometry_of b None = record { scroll = 0; paint = 0 }

-- where its child stands on the main axis: as far before the view as the sliver is scrolled off
abbrev pub box_place_of : SliverBounds → ℤ
box_place_of b = neg_ℤ (pos b.offset)

-- what the child of a SliverPadding gets (RenderSliverEdgeInsetsPadding.performLayout)
abbrev pub padded_of : SliverBounds → Insets → SliverBounds
padded_of b insets = record {
  axis = b.axis;
  offset = b.offset - before insets b.axis;
  remaining = b.remaining - paint_offset_of b 0 (before insets b.axis);
  cross = b.cross - along insets (other_of b.axis);
}

-- what a SliverPadding gives: its child's scroll extent between the insets p and q, and what is painted of the
-- insets and of the child. Scroll extents stop at 2^40.
abbrev pub padding_of : SliverBounds → Insets → Option Geometry → Geometry
padding_of b insets None =
    let p = before insets b.axis in
    let q = after insets b.axis in
    record { scroll = stopped (p + q); paint = paint_offset_of b 0 (stopped (p + q)) }
padding_of b insets (Some child) =
    let p = before insets b.axis in
    let q = after insets b.axis in
    let s = child.scroll in
    record {
      scroll = stopped (p + q + s);
      paint = min
          (paint_offset_of b 0 p + child.paint + paint_offset_of b (stopped (p + s)) (stopped (p + q + s)))
          b.remaining;
    }

-- the greatest offset to which a viewport of this main extent can be scrolled
-- (ViewportOffset.applyContentDimensions)
abbrev pub greatest_offset : ℕ → ℕ → ℕ
greatest_offset total main = total - main

-- the offset of a viewport after its correction (ViewportOffset.applyContentDimensions)
abbrev pub corrected_of : ℕ → ℕ → ℕ → ℕ
corrected_of offset total main = min offset (greatest_offset total main)

-- where a viewport's walk over its slivers begins (RenderViewport.layoutChildSequence): nothing is placed yet, and all of
-- the offset is left
abbrev pub walk_from : ℕ → Walk
walk_from offset = record { left = offset; at = 0 }

-- what the next sliver of the walk gets, in a viewport of these extents
abbrev pub view_of : Axis → ℕ → ℕ → Walk → SliverBounds
view_of axis main cross w = record { axis = axis; offset = w.left; remaining = main - w.at; cross = cross }

-- the walk past a sliver that gave this: what could be scrolled through is taken from the offset, as far as there is any,
-- and what is painted lies before the next sliver
abbrev pub walk_past : Walk → Geometry → Walk
walk_past w given = record { left = w.left - given.scroll; at = w.at + given.paint }
