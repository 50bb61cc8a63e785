-- How large a laid node is, and what is seen of it.
use Rattle.std.specs.Prelude.{Bool, false, ◌==◌}
use Rattle.fx_geom.specs.Along.{size_along}
use Rattle.fx_geom.specs.Size.{no_size}
use Rattle.fx_geom.specs.declared.shapes.Size.{Size}
use Rattle.plain_tree.specs.declared.laid.Frame.{Frame}
use Rattle.plain_tree.specs.declared.laid.Frame.TheVariants.{Boxed, Sliver}

-- the size of a box; a sliver has none
abbrev pub box_size : Frame → Size
box_size (Boxed bounds size) = size
box_size (Sliver bounds geometry) = no_size

-- a sliver of which nothing is seen: one without a paint extent
abbrev pub is_unseen : Frame → Bool
is_unseen (Boxed bounds size) = false
is_unseen (Sliver bounds geometry) = geometry.paint == 0

-- what is seen of a node: the size of a box; of a sliver its paint extent, by its cross extent
abbrev pub shown_size : Frame → Size
shown_size (Boxed bounds size) = size
shown_size (Sliver bounds geometry) = size_along bounds.axis geometry.paint bounds.cross
