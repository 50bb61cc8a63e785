-- What it is to bring render nodes to the tree of a build.
use Rattle.std.specs.Prelude.{◌≡◌, ℕ, true, Option, Some, None, List, [], ◌++◌}
use Rattle.fx_handles.specs.declared.Handle.{Handle}
use Rattle.node_tree.specs.Children.{Keeps}
use Rattle.node_tree.specs.Forest.{TreeNode, Forest, tops}
use Rattle.node_tree.specs.Plan.{PlanEntry, entries, IsPlan, IsUpdated, Commits}
use Rattle.node_tree.specs.Tree.{Tree, node_at, Is}
use Rattle.widget_model.specs.Plain.{PlainWidget}
use Rattle.plain_tree.specs.Render.{Render, no_renders, more_renders}
use Rattle.render_tree.specs.Changes.{LaidAnew, PaintedAnew}
use Rattle.render_tree.specs.Edits.{new_object}
use Rattle.render_tree.specs.Marked.{SetsMarks}
use Rattle.render_tree.specs.Marks.{layout_marks, paint_marks}
use Rattle.render_tree.specs.Object.{RenderObject}
use Rattle.render_tree.specs.Plain.{renders_of}
use Rattle.render_tree.specs.Redraw.{Redraw, redrawn}
use Rattle.render_tree.specs.Tree.{object_at}
use Rattle.render_sync.specs.Numbering.{NumbersDiffer}
use Rattle.render_sync.specs.Renders.{AreDrawn}

-- a node that stands nowhere yet, and has everything to be done
abbrev pub IsFresh : TreeNode RenderObject → Type 0
IsFresh n = (number : ℕ) × (widget : PlainWidget) × (n ≡ record { parent = None; children = []; value = new_object number widget })

-- a tree gets new nodes, and all that was there stays as it is
pub record Grows (old new : Tree RenderObject) : Type 0 where
  pub keeps : Keeps old new
  pub fresh : (k : Handle) (n : TreeNode RenderObject) → node_at old k ≡ None → node_at new k ≡ Some n → IsFresh n
  pub root : new.root ≡ old.root

-- a tree is brought to a build's render nodes: it gets new nodes, for numbers that no node has; a plan over them, and over those that
-- were there, is committed, after which the tree is exactly the build's; and the nodes that the plan changes are marked
pub record Synced (old new : Tree RenderObject) (top : Render) : Type 0 where
  pub made : Tree RenderObject
  pub grows : Grows old made
  pub differ : NumbersDiffer made
  -- the plan
  pub plan : List (PlanEntry Redraw)
  pub root : Handle
  pub updates : Forest Redraw
  pub nodes : Forest RenderObject
  pub is_plan : IsPlan made plan (Some root) [] updates
  pub updated : IsUpdated redrawn (object_at made) updates nodes
  pub renders : renders_of nodes ≡ more_renders top no_renders
  -- its commit
  pub committed : Tree RenderObject
  pub commits : Commits redrawn plan made.nodes committed.nodes
  pub is : Is committed nodes
  pub at_root : committed.root ≡ Some root
  -- what it changes, and the marks
  pub laid : List Handle
  pub laid_anew : LaidAnew made (Some root) plan laid
  pub painted : List Handle
  pub painted_anew : PaintedAnew made (Some root) plan painted
  pub laid_marked : Tree RenderObject
  pub layouts : SetsMarks layout_marks true laid committed laid_marked
  pub paints : SetsMarks paint_marks true painted laid_marked new

-- ---- steps

-- more render nodes were planned, below a parent: their entries, and their handles
pub record Plans (find : ℕ → Option Handle) (parent : Option Handle) (rs : List Render) (before after : List (PlanEntry Redraw)) (hs ks : List Handle) : Type 0 where
  pub forest : Forest Redraw
  pub drawn : AreDrawn find forest rs
  pub entries_are : after ≡ before ++ entries parent forest
  pub tops_are : ks ≡ hs ++ tops forest
