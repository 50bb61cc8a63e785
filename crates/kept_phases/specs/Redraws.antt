-- How render nodes follow a build, in one step: nodes are made, a plan for them is committed, and the nodes that it changes are marked.
use Rattle.std.specs.Prelude.{◌≡◌, true, Some, None, List}
use Rattle.fx_handles.specs.declared.Handle.{Handle}
use Rattle.node_tree.specs.Forest.{Forest}
use Rattle.node_tree.specs.Plan.{entries, IsUpdated}
use Rattle.node_tree.specs.Tree.{Tree, Is}
use Rattle.render_tree.specs.Changes.{LaidAnew, PaintedAnew}
use Rattle.render_tree.specs.Marked.{SetsMarks}
use Rattle.render_tree.specs.Marks.{layout_marks, paint_marks}
use Rattle.render_tree.specs.Object.{RenderObject}
use Rattle.render_tree.specs.Redraw.{Redraw, redrawn}
use Rattle.render_tree.specs.Tree.{object_at}
use Rattle.render_sync.specs.Synced.{Grows}
use Rattle.kept_layers.specs.Group.{is_boundary}

-- a tree gets new nodes; then it becomes the nodes of a plan; and those that the plan changes are marked, for layout and for painting
pub record Redraws (old new : Tree RenderObject) : Type 0 where
  pub made : Tree RenderObject
  pub grows : Grows old made
  -- the plan
  pub updates : Forest Redraw
  pub nodes : Forest RenderObject
  pub updated : IsUpdated redrawn (object_at made) updates nodes
  -- its commit
  pub committed : Tree RenderObject
  pub is : Is committed nodes
  -- what it changes, and the marks
  pub laid : List Handle
  pub laid_anew : LaidAnew made committed.root (entries None updates) laid
  pub painted : List Handle
  pub painted_anew : PaintedAnew made committed.root (entries None updates) painted
  pub laid_marked : Tree RenderObject
  pub layouts : SetsMarks layout_marks true laid committed laid_marked
  pub paints : SetsMarks paint_marks true painted laid_marked new

-- no node becomes a RepaintBoundary that was none, or the other way round
abbrev pub KeepsKinds : Tree RenderObject → Tree RenderObject → Type 0
KeepsKinds old new = (k : Handle) (o v : RenderObject) → object_at old k ≡ Some o → object_at new k ≡ Some v → is_boundary v ≡ is_boundary o
