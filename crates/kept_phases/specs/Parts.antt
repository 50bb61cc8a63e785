-- How render nodes follow the first phase of a build: a plan for a part of them is committed, and beside it stays what isn't planned.
use Rattle.std.specs.Prelude.{◌≡◌, ◌⊎◌, true, Some, None, List, ◌++◌}
use Rattle.std.specs.Option.{option_to_list}
use Rattle.fx_handles.specs.declared.Handle.{Handle}
use Rattle.fx_handles.specs.Handle.{Among}
use Rattle.node_tree.specs.Forest.{Forest, tops, append}
use Rattle.node_tree.specs.Part.{CommitsPart}
use Rattle.node_tree.specs.Plan.{entries, planned, IsUpdated}
use Rattle.node_tree.specs.Tree.{Tree, Is, parent_at}
use Rattle.tree_marks.specs.Marks.{listed}
use Rattle.render_tree.specs.Changes.{EachEntry, LaidAnew, PaintedAnew}
use Rattle.render_tree.specs.Marked.{SetsMarks}
use Rattle.render_tree.specs.Marks.{layout_marks, paint_marks}
use Rattle.render_tree.specs.Object.{RenderObject}
use Rattle.render_tree.specs.Redraw.{Redraw, redrawn}
use Rattle.render_tree.specs.Tree.{object_at}
use Rattle.render_sync.specs.Synced.{Grows}

-- a tree gets new nodes; a plan for a part of it is committed, whose nodes are the root's tree, with the others beside it; and the nodes
-- are marked that the plan changes, and those beside it that lose a child to it
pub record RedrawsPart (old new : Tree RenderObject) : Type 0 where
  pub made : Tree RenderObject
  pub grows : Grows old made
  -- the plan
  pub updates : Forest Redraw
  pub nodes : Forest RenderObject
  pub others : Forest RenderObject
  pub updated : IsUpdated redrawn (object_at made) updates nodes
  -- its commit
  pub committed : Tree RenderObject
  pub commits : CommitsPart redrawn (entries None updates) made.nodes committed.nodes
  pub is : Is committed (append nodes others)
  pub root : option_to_list committed.root ≡ tops nodes
  -- what it changes
  pub laid : List Handle
  pub laid_anew : LaidAnew made committed.root (entries None updates) laid
  pub painted : List Handle
  pub painted_anew : PaintedAnew made committed.root (entries None updates) painted
  -- the nodes that lose a child, which gets another parent
  pub lost : List Handle
  pub shortened : (k p : Handle) → Among k (planned (entries None updates)) → parent_at made k ≡ Some p → Among p (planned (entries None updates)) ⊎ (listed p lost ≡ true)
  pub left : (p : Handle) → listed p lost ≡ true
      → (k : Handle) × Among k (planned (entries None updates)) × (parent_at made k ≡ Some p) × EachEntry (λ e. e.at ≡ k → e.parent ≡ Some p → ⊥) (entries None updates)
  -- the marks
  pub laid_marked : Tree RenderObject
  pub layouts : SetsMarks layout_marks true (laid ++ lost) committed laid_marked
  pub paints : SetsMarks paint_marks true (painted ++ lost) laid_marked new
