-- What render nodes stand for, as plain data: the render nodes of a build, and the laid tree of a layout.
use Rattle.std.specs.Prelude.{ℕ, Option, Some, None, if◌then◌else◌}
use Rattle.fx_handles.specs.declared.Handle.{Handle}
use Rattle.fx_geom.specs.Bounds.{tight}
use Rattle.fx_geom.specs.declared.shapes.Offset.{Offset}
use Rattle.fx_geom.specs.Offset.{origin}
use Rattle.fx_geom.specs.Size.{no_size}
use Rattle.node_tree.specs.Forest.{Forest}
use Rattle.node_tree.specs.Forest.Forest.{none, tree}
use Rattle.node_tree.specs.Tree.{Tree, subtree_at}
use Rattle.widget_model.specs.Plain.{children_of}
use Rattle.plain_tree.specs.declared.laid.Facts.{Facts}
use Rattle.plain_tree.specs.declared.laid.Frame.{Frame}
use Rattle.plain_tree.specs.declared.laid.Frame.TheVariants.{Boxed}
use Rattle.plain_tree.specs.RenderRole.{render_role_of}
use Rattle.plain_tree.specs.Render.{render, Renders, no_renders, more_renders, lazy_count}
use Rattle.plain_tree.specs.Laid.{Laid, laid, Laids, no_laids, more_laids}
use Rattle.render_tree.specs.Object.{RenderObject, object_look}

-- the number of child widgets of a SliverLazy, 0 of any other kind
abbrev pub lazy_children : RenderObject → ℕ
lazy_children o = lazy_count (render_role_of (object_look o)) (children_of o.widget)

-- the plain render nodes that a forest of them is
abbrev pub renders_of : Forest RenderObject → Renders
renders_of none = no_renders
renders_of (tree h o below rest) =
    more_renders (render o.number (object_look o) o.parent_data o.scroll (lazy_children o) (renders_of below)) (renders_of rest)

-- the frame of a node; one that was never laid out counts as a box without extent
abbrev pub frame_or : Option Frame → Frame
frame_or None = Boxed (tight no_size) no_size
frame_or (Some frame) = frame

-- where a node stands in its parent; one that was never put anywhere stands at its start
abbrev pub offset_or : Option Offset → Offset
offset_or None = origin
offset_or (Some offset) = offset

-- what a node's last layout gave
abbrev pub facts_of : RenderObject → Facts
facts_of o = record { frame = frame_or o.frame; notes = o.notes; plugged = o.plugged; scrolled = o.scrolled }

-- the laid trees of a forest: of the nodes in the window alone, each at its offset
abbrev pub laids_of : Forest RenderObject → Laids
laids_of none = no_laids
laids_of (tree h o below rest) =
    if o.shown
    then more_laids (offset_or o.offset) (laid o.number (object_look o) (facts_of o) (laids_of below)) (laids_of rest)
    else laids_of rest

-- the laid tree of a root with what is below it, whether the root is in the window or not
abbrev pub laid_of : Forest RenderObject → Option Laid
laid_of none = None
laid_of (tree h o below rest) = Some (laid o.number (object_look o) (facts_of o) (laids_of below))

abbrev pub root_below : Tree RenderObject → Option Handle → Forest RenderObject
root_below t None = none
root_below t (Some h) = subtree_at t h

-- the root's tree: nothing where there is no root
abbrev pub root_tree : Tree RenderObject → Forest RenderObject
root_tree t = root_below t t.root
