-- What painting sees of the nodes of an arena.
use Rattle.std.specs.Prelude.{◌≡◌, ℕ, Bool, Option, option_map, List}
use Rattle.fx_geom.specs.declared.shapes.Offset.{Offset}
use Rattle.fx_handles.specs.declared.Handle.{Handle}
use Rattle.node_tree.specs.Forest.{TreeNode}
use Rattle.node_tree.specs.Tree.{Tree, node_at}
use Rattle.widget_model.specs.Look.{Look}
use Rattle.plain_tree.specs.declared.laid.Frame.{Frame}
use Rattle.render_tree.specs.Object.{RenderObject, object_look}

-- its number, its kind, its children, its flag, and what its last layout left
pub record PaintSeen : Type 0 where
  pub number : ℕ
  pub look : Look
  pub children : List Handle
  pub flag : Bool
  pub frame : Option Frame
  pub plugged : Bool
  pub offset : Option Offset
  pub shown : Bool

abbrev pub paint_seen : TreeNode RenderObject → PaintSeen
paint_seen n = record {
  number = n.value.number;
  look = object_look n.value;
  children = n.children;
  flag = n.value.needs_paint;
  frame = n.value.frame;
  plugged = n.value.plugged;
  offset = n.value.offset;
  shown = n.value.shown;
}

-- painting sees the same nodes
abbrev pub SeenSame : Tree RenderObject → Tree RenderObject → Type 0
SeenSame old new = (k : Handle) → option_map paint_seen (node_at new k) ≡ option_map paint_seen (node_at old k)
