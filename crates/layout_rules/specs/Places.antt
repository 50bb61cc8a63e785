-- A place in a tree of render nodes, as the rules read it.
use Rattle.fx_handles.specs.declared.Handle.{Handle}
use Rattle.node_tree.specs.Forest.{Forest}
use Rattle.node_tree.specs.Forest.Forest.{none, tree}
use Rattle.node_tree.specs.Tree.{Tree, subtree_at}
use Rattle.widget_model.specs.Look.{sliver_to_box}
use Rattle.plain_tree.specs.Render.{Render, render, no_renders}
use Rattle.render_tree.specs.Edits.{no_parent_data}
use Rattle.render_tree.specs.Object.{RenderObject, object_look}
use Rattle.render_tree.specs.Plain.{lazy_children, renders_of}

-- the first render node of a forest; a forest without nodes counts as an empty SliverToBox
abbrev pub first_render : Forest RenderObject → Render
first_render none = render 0 sliver_to_box no_parent_data 0 0 no_renders
first_render (tree h o below rest) = render o.number (object_look o) o.parent_data o.scroll (lazy_children o) (renders_of below)

-- the render node of a handle, with all that is below it
abbrev pub render_at : Tree RenderObject → Handle → Render
render_at t h = first_render (subtree_at t h)
