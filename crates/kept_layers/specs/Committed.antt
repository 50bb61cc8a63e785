-- A plan that was committed for a whole new tree, with the nodes that it changes for painting.
use Rattle.std.specs.Prelude.{◌≡◌, true, Some, None, List, []}
use Rattle.fx_handles.specs.declared.Handle.{Handle}
use Rattle.node_tree.specs.Children.{Keeps}
use Rattle.node_tree.specs.Forest.{TreeNode}
use Rattle.node_tree.specs.Plan.{PlanEntry, Commits}
use Rattle.node_tree.specs.Tree.{Tree, node_at, IsTree}
use Rattle.render_tree.specs.Changes.{PaintedAnew}
use Rattle.render_tree.specs.Marked.{SetsMarks}
use Rattle.render_tree.specs.Marks.{layout_marks}
use Rattle.render_tree.specs.Object.{RenderObject}
use Rattle.render_tree.specs.Redraw.{Redraw, redrawn}
use Rattle.render_tree.specs.Tree.{object_at}
use Rattle.kept_layers.specs.Group.{is_boundary}

-- a tree without inactive nodes gets new ones, which have both marks for painting; a plan over all of them is committed, which changes
-- the nodes of a list for painting, and makes no node a RepaintBoundary that was none, or the other way round; and nodes are marked for
-- layout
pub record CommitsListed (painted : List Handle) (old new : Tree RenderObject) : Type 0 where
  pub whole : old.inactive ≡ []
  pub made : Tree RenderObject
  pub keeps : Keeps old made
  pub fresh : (k : Handle) (n : TreeNode RenderObject) → node_at old k ≡ None → node_at made k ≡ Some n → (n.value.needs_paint ≡ true) × (n.value.paint_below ≡ true)
  pub same_root : made.root ≡ old.root
  pub plan : List (PlanEntry Redraw)
  pub root : Handle
  pub committed : Tree RenderObject
  pub commits : Commits redrawn plan made.nodes committed.nodes
  pub at_root : committed.root ≡ Some root
  pub is : IsTree committed
  pub painted_anew : PaintedAnew made (Some root) plan painted
  pub laid : List Handle
  pub layouts : SetsMarks layout_marks true laid committed new
  pub kinds : (k : Handle) (o v : RenderObject) → object_at old k ≡ Some o → object_at new k ≡ Some v → is_boundary v ≡ is_boundary o
