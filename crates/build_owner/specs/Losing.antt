-- Which nodes lose a child to a plan for a part of a tree.
use Rattle.std.specs.Prelude.{◌≡◌, ◌⊎◌, true, Some, List}
use Rattle.fx_handles.specs.declared.Handle.{Handle}
use Rattle.node_tree.specs.Plan.{PlanEntry}
use Rattle.node_tree.specs.Tree.{Tree, parent_at}
use Rattle.tree_marks.specs.Marks.{listed}
use Rattle.render_tree.specs.Changes.{EachEntry, SomeEntry}
use Rattle.render_tree.specs.Object.{RenderObject}
use Rattle.render_tree.specs.Redraw.{Redraw}

-- a planned node is put elsewhere than below this one, where it was
abbrev pub LeavesAt : Tree RenderObject → Handle → PlanEntry Redraw → Type 0
LeavesAt t p e = (parent_at t e.at ≡ Some p) × (e.parent ≡ Some p → ⊥)

-- these are the parents of planned nodes that the plan puts elsewhere
pub record ParentsLeft (t : Tree RenderObject) (es : List (PlanEntry Redraw)) (hs : List Handle) : Type 0 where
  pub kept : EachEntry (λ e. (p : Handle) → parent_at t e.at ≡ Some p → (e.parent ≡ Some p) ⊎ (listed p hs ≡ true)) es
  pub left : (p : Handle) → listed p hs ≡ true → SomeEntry (LeavesAt t p) es
