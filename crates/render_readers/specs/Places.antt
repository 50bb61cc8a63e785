-- A node of a tree of render nodes as a laid node, and what stands at the places of its children: a child that is in the window
-- at its offset, or none.
use Rattle.std.specs.Prelude.{false, Option, Some, None, if◌then◌else◌, List, [], ◌∷◌}
use Rattle.fx_handles.specs.declared.Handle.{Handle}
use Rattle.node_tree.specs.Forest.{Forest}
use Rattle.node_tree.specs.Forest.Forest.{none, tree}
use Rattle.node_tree.specs.Tree.{Tree, subtree_at}
use Rattle.widget_model.specs.Look.{sliver_to_box}
use Rattle.plain_tree.specs.declared.laid.Facts.{Facts}
use Rattle.plain_tree.specs.Laid.{Laid, laid, no_laids, Stood}
use Rattle.render_tree.specs.Object.{RenderObject, object_look}
use Rattle.render_tree.specs.Plain.{frame_or, offset_or, facts_of, laids_of}

abbrev pub no_facts : Facts
no_facts = record { frame = frame_or None; notes = record { overflow = 0; unbounded = false }; plugged = false; scrolled = 0 }

-- the first laid node of a forest; a forest without nodes counts as an empty SliverToBox
abbrev pub first_laid : Forest RenderObject → Laid
first_laid none = laid 0 sliver_to_box no_facts no_laids
first_laid (tree h o below rest) = laid o.number (object_look o) (facts_of o) (laids_of below)

-- the laid node of a handle, with all that is below it
abbrev pub laid_at : Tree RenderObject → Handle → Laid
laid_at t h = first_laid (subtree_at t h)

-- what stands at a place
abbrev pub place_of : RenderObject → Forest RenderObject → Option Stood
place_of o below =
    if o.shown
    then Some (record { at = offset_or o.offset; child = laid o.number (object_look o) (facts_of o) (laids_of below) })
    else None

abbrev pub first_place : Forest RenderObject → Option Stood
first_place none = None
first_place (tree h o below rest) = place_of o below

abbrev pub places_in : Forest RenderObject → List (Option Stood)
places_in none = []
places_in (tree h o below rest) = place_of o below ∷ places_in rest
