-- The layouts that are kept, where a build has made a step.
use Rattle.std.proofs.Common.{ap, subst, ◌∙◌, Bool, true, None, Option, List}
use Rattle.fx_handles.specs.declared.Handle.{Handle}
use Rattle.node_tree.specs.Forest.{TreeNode, Forest}
use Rattle.node_tree.specs.Plan.{PlanEntry, entries, IsPlan, IsUpdated}
use Rattle.node_tree.specs.Tree.{Tree, Is, IsTree, node_at, value_at}
use Rattle.node_tree.proofs.TreeLemmas.{is_node}
use Rattle.tree_marks.specs.Marking.{Above, at_top}
use Rattle.tree_marks.specs.Marks.{sweep}
use Rattle.layout_form.specs.Object.{Setting}
use Rattle.layout_walk.specs.Here.{HereAll}
use Rattle.layout_walk.specs.Rules.{parts_of}
use Rattle.layout_rules.specs.Nodes.{layout_nodes}
use Rattle.render_tree.specs.Changes.{LaidAnew}
use Rattle.render_tree.specs.Marked.{SetsMarks}
use Rattle.render_tree.specs.Marks.{layout_marks, paint_marks}
use Rattle.render_tree.specs.Object.{RenderObject}
use Rattle.render_tree.specs.Redraw.{Redraw, redrawn}
use Rattle.kept_layouts.specs.Here.{KeepsLayouts, HereStore, AddsMarked}
use Rattle.kept_phases.proofs.Roots.{same_forest}
use Rattle.kept_phases.specs.Redraws.{Redraws}
use Rattle.kept_phases.proofs.Planned.{plan_is}

-- the laws of kept layouts that a step needs
pub record LayoutLaws : Type 0 where
  pub stores : (s : Setting) (t : Tree RenderObject) → IsTree t → KeepsLayouts s t → HereStore s (node_at t)
  pub more : (s : Setting) (old new : Handle → Option (TreeNode RenderObject)) → HereStore s old → AddsMarked old new → HereStore s new
  pub commits : (s : Setting) (t : Tree RenderObject) (es : List (PlanEntry Redraw)) (root : Option Handle) (inactive : List Handle) (g : Forest Redraw) (f : Forest RenderObject) (hs : List Handle) (p : Above)
      → HereStore s (node_at t) → IsPlan t es root inactive g → LaidAnew t root es hs → IsUpdated redrawn (value_at t) g f → HereAll (parts_of s) (layout_nodes (sweep layout_marks true hs p f))
  pub paints : (s : Setting) (also : Bool) (hs : List Handle) (old new : Tree RenderObject) → IsTree old → SetsMarks paint_marks also hs old new → KeepsLayouts s old → KeepsLayouts s new

-- what holds of one forest that the tree is
pub keeps_one : (s : Setting) (t : Tree RenderObject) (f : Forest RenderObject) → Is t f → HereAll (parts_of s) (layout_nodes f) → KeepsLayouts s t
keeps_one s t f is here g there = subst (λ (x : Forest RenderObject). HereAll (parts_of s) (layout_nodes x)) (same_forest t f g is there) here

pub redrawn_layouts : LayoutLaws → (s : Setting) (old new : Tree RenderObject) (r : Redraws old new) → IsTree old → KeepsLayouts s old → KeepsLayouts s new
redrawn_layouts laws s old new r is keeps =
    let adds : AddsMarked (node_at old) (node_at r.made) = record {
      keeps = λ k n there. r.grows.keeps k (is_node (node_at old k) n there) ∙ there;
      bare = λ k n was there. ap (λ (y : TreeNode RenderObject). y.children) (r.grows.fresh k n was there).2;
      flag = λ k n was there. ap (λ (y : TreeNode RenderObject). y.value.needs_layout) (r.grows.fresh k n was there).2;
      below = λ k n was there. ap (λ (y : TreeNode RenderObject). y.value.layout_below) (r.grows.fresh k n was there).2;
    } in
    let store = laws.more s (node_at old) (node_at r.made) (laws.stores s old is keeps) adds in
    let laid : Is r.laid_marked (sweep layout_marks true r.laid at_top r.nodes) = r.layouts.plain r.nodes r.is in
    laws.paints s true r.painted r.laid_marked new (_, laid) r.paints
    (keeps_one s r.laid_marked (sweep layout_marks true r.laid at_top r.nodes) laid
    (laws.commits s r.made (entries None r.updates) r.committed.root r.committed.inactive r.updates r.nodes r.laid at_top store (plan_is old new r) r.laid_anew r.updated))
