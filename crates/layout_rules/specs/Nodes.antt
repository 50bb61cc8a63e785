-- Render nodes as a layout sees them.
use Rattle.std.specs.Prelude.{◌≡◌, Option, option_map, [], ◌∷◌}
use Rattle.fx_handles.specs.declared.Handle.{Handle}
use Rattle.node_tree.specs.Forest.{TreeNode, Forest, tops, IsDistinct, Stands, map_values}
use Rattle.node_tree.specs.Tree.{Tree, node_at, parent_at}
use Rattle.render_tree.specs.Object.{RenderObject, object_look}
use Rattle.render_tree.specs.Plain.{lazy_children}
use Rattle.layout_walk.specs.Node.{LayoutNode}

-- what a layout reads and writes of a render node
abbrev pub layout_node : RenderObject → LayoutNode
layout_node o = record {
  number = o.number;
  look = object_look o;
  told = o.parent_data;
  count = lazy_children o;
  scroll = o.scroll;
  frame = o.frame;
  notes = o.notes;
  plugged = o.plugged;
  scrolled = o.scrolled;
  offset = o.offset;
  shown = o.shown;
  needs_layout = o.needs_layout;
  layout_below = o.layout_below;
}

abbrev pub layout_nodes : Forest RenderObject → Forest LayoutNode
layout_nodes f = map_values (λ h o. layout_node o) f

-- what is stored at each handle
abbrev pub seen_node : TreeNode RenderObject → TreeNode LayoutNode
seen_node n = record { parent = n.parent; children = n.children; value = layout_node n.value }

abbrev pub seen_at : Tree RenderObject → Handle → Option (TreeNode LayoutNode)
seen_at t h = option_map seen_node (node_at t h)

-- this forest is the subtree of a node, as a layout sees it
pub record SeenAt (t : Tree RenderObject) (h : Handle) (s : Forest LayoutNode) : Type 0 where
  pub top : tops s ≡ h ∷ []
  pub stands : Stands (seen_at t) (parent_at t h) s
  pub distinct : IsDistinct s
