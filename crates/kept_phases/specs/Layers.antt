-- Layers that are kept, of all nodes of a tree: also of those that stand beside the root's.
use Rattle.std.specs.Prelude.{List}
use Rattle.fx_geom.specs.declared.shapes.Size.{Size}
use Rattle.delegates.specs.Table.{Plug}
use Rattle.node_tree.specs.Forest.{Forest}
use Rattle.node_tree.specs.Tree.{Tree, Is}
use Rattle.render_tree.specs.Object.{RenderObject}
use Rattle.render_tree.specs.Plain.{root_tree}
use Rattle.kept_layers.specs.KeptLayers.{IsFresh, IsMarked}
use Rattle.paint_owner.specs.PaintOwner.{PaintOwner, kept_of, IsRootFresh}

-- what is kept is what a full painting would give, but for what is flagged: each boundary without a flag, wherever it stands, keeps the
-- parts of its group and its layer; so does the root; and nothing is flagged below a node without a mark
pub record KeepsLayers (cell : Size) (delegates : List Plug) (o : PaintOwner) (t : Tree RenderObject) : Type 0 where
  pub boundaries : (f : Forest RenderObject) → Is t f → IsFresh cell delegates (kept_of o) f
  pub root : IsRootFresh cell delegates o (root_tree t)
  pub marks : (f : Forest RenderObject) → Is t f → IsMarked f
