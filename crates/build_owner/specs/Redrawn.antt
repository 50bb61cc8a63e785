-- How render nodes follow a plan: it is committed, and the nodes that it changes are marked.
use Rattle.std.specs.Prelude.{◌≡◌, ◌⊎◌, ◌++◌, true, Some, None, List, []}
use Rattle.std.specs.Option.{option_to_list}
use Rattle.fx_handles.specs.declared.Handle.{Handle}
use Rattle.fx_handles.specs.Handle.{Among}
use Rattle.node_tree.specs.Forest.{Forest, tops, append}
use Rattle.node_tree.specs.Part.{CommitsPart}
use Rattle.node_tree.specs.Plan.{PlanEntry, entries, planned, IsPlan, IsUpdated, Commits}
use Rattle.node_tree.specs.Tree.{Tree, Is, parent_at}
use Rattle.tree_marks.specs.Marks.{listed}
use Rattle.render_tree.specs.Changes.{SomeEntry, LaidAnew, PaintedAnew}
use Rattle.render_tree.specs.Marked.{SetsMarks}
use Rattle.render_tree.specs.Marks.{layout_marks, paint_marks}
use Rattle.render_tree.specs.Object.{RenderObject}
use Rattle.render_tree.specs.Redraw.{Redraw, redrawn}
use Rattle.render_tree.specs.Tree.{object_at}
use Rattle.build_owner.specs.Losing.{LeavesAt}

-- a plan is that of a forest of updates with one top
pub record IsPlanOf (t : Tree RenderObject) (top : Handle) (es : List (PlanEntry Redraw)) (d : Forest Redraw) : Type 0 where
  pub is : es ≡ entries None d
  pub plan : IsPlan t es (Some top) [] d

-- it becomes the tree, which these nodes are; and exactly those of them that it changes are marked, for layout and for painting
pub record IsRedrawn (old new : Tree RenderObject) (d : Forest Redraw) : Type 0 where
  pub nodes : Forest RenderObject
  pub updated : IsUpdated redrawn (object_at old) d nodes
  pub committed : Tree RenderObject
  pub commits : Commits redrawn (entries None d) old.nodes committed.nodes
  pub is : Is committed nodes
  pub root : option_to_list committed.root ≡ tops nodes
  pub laid : List Handle
  pub laid_anew : LaidAnew old committed.root (entries None d) laid
  pub painted : List Handle
  pub painted_anew : PaintedAnew old committed.root (entries None d) painted
  pub laid_marked : Tree RenderObject
  pub layouts : SetsMarks layout_marks true laid committed laid_marked
  pub paints : SetsMarks paint_marks true painted laid_marked new

-- it becomes a part of the tree, and beside these nodes stands what was there and isn't planned
pub record IsPartRedrawn (old new : Tree RenderObject) (d : Forest Redraw) : Type 0 where
  pub nodes : Forest RenderObject
  pub others : Forest RenderObject
  pub updated : IsUpdated redrawn (object_at old) d nodes
  pub committed : Tree RenderObject
  pub commits : CommitsPart redrawn (entries None d) old.nodes committed.nodes
  pub is : Is committed (append nodes others)
  pub root : option_to_list committed.root ≡ tops nodes
  pub laid : List Handle
  pub laid_anew : LaidAnew old committed.root (entries None d) laid
  pub painted : List Handle
  pub painted_anew : PaintedAnew old committed.root (entries None d) painted
  -- so are nodes that lose a child to it: what isn't planned may come back with what it has left
  pub lost : List Handle
  pub shortened : (k p : Handle) → Among k (planned (entries None d)) → parent_at old k ≡ Some p → Among p (planned (entries None d)) ⊎ (listed p lost ≡ true)
  pub left : (p : Handle) → listed p lost ≡ true → SomeEntry (LeavesAt old p) (entries None d)
  pub laid_marked : Tree RenderObject
  pub layouts : SetsMarks layout_marks true (laid ++ lost) committed laid_marked
  pub paints : SetsMarks paint_marks true (painted ++ lost) laid_marked new
