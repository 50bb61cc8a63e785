-- Which nodes a plan leaves as they are, so that they aren't marked.
use Rattle.std.specs.Prelude.{◌≡◌, Option, Some, None, List}
use Rattle.fx_handles.specs.declared.Handle.{Handle}
use Rattle.fx_handles.specs.Handle.{Among}
use Rattle.node_tree.specs.Forest.{Forest}
use Rattle.node_tree.specs.Plan.{PlanEntry, entries, planned}
use Rattle.node_tree.specs.Tree.{Tree, children_at}
use Rattle.render_tree.specs.Changes.{KeepsOwn, KeepsLook, KeepsTold, KeepsList, EachEntry, BecomesRoot}
use Rattle.render_tree.specs.Object.{RenderObject}
use Rattle.render_tree.specs.Redraw.{Redraw}
use Rattle.build_walk.specs.Merging.{lists_redraw, list_handles}

-- a plan leaves a node the list of its children, what a layout reads of it, and what it takes of each child
pub record LeavesLaid (t : Tree RenderObject) (root : Option Handle) (es : List (PlanEntry Redraw)) (k : Handle) : Type 0 where
  pub own : EachEntry (λ e. e.at ≡ k → KeepsOwn t e × KeepsList t e) es
  pub told : EachEntry (λ e. e.parent ≡ Some k → KeepsTold t e) es
  pub top : BecomesRoot t root k → ⊥

-- and its members and callbacks
pub record LeavesPainted (t : Tree RenderObject) (root : Option Handle) (es : List (PlanEntry Redraw)) (k : Handle) : Type 0 where
  pub own : EachEntry (λ e. e.at ≡ k → KeepsLook t e × KeepsList t e) es
  pub top : BecomesRoot t root k → ⊥

-- a lazy list of a plan keeps all that was below it: none of it is planned
pub record KeepsItems (t : Tree RenderObject) (d : Forest Redraw) (k : Handle) : Type 0 where
  pub list : Among k (list_handles lists_redraw d)
  pub unclaimed : (c : Handle) → Among c (children_at t k) → Among c (planned (entries None d)) → ⊥
