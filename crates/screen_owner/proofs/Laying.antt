-- The layouts that are kept, where a tree was brought to render nodes of a build, and where its root was put into the window.
use Rattle.std.proofs.Common.{◌≡◌, ap, refl, sym, subst, ◌∙◌, Bool, true, Option, Some, List}
use Rattle.fx_handles.specs.declared.Handle.{Handle}
use Rattle.node_tree.specs.Forest.{TreeNode, Forest}
use Rattle.node_tree.specs.Forest.Forest.{none, tree}
use Rattle.node_tree.specs.Plan.{PlanEntry, IsPlan, IsUpdated}
use Rattle.node_tree.specs.Tree.{Tree, Is, IsTree, node_at, value_at}
use Rattle.node_tree.proofs.TreeLemmas.{is_node}
use Rattle.plain_tree.specs.Render.{Render}
use Rattle.tree_marks.specs.Marking.{Above, at_top}
use Rattle.tree_marks.specs.Marks.{sweep}
use Rattle.layout_form.specs.Object.{Setting}
use Rattle.layout_walk.specs.Here.{HereAll}
use Rattle.layout_walk.specs.Node.{LayoutNode}
use Rattle.layout_walk.specs.Rules.{parts_of}
use Rattle.layout_rules.specs.Nodes.{layout_node, layout_nodes}
use Rattle.render_tree.specs.Changes.{LaidAnew}
use Rattle.render_tree.specs.Marked.{SetsMarks}
use Rattle.render_tree.specs.Marks.{layout_marks, paint_marks}
use Rattle.render_tree.specs.Object.{RenderObject}
use Rattle.render_tree.specs.Redraw.{Redraw, redrawn}
use Rattle.render_sync.specs.Synced.{Synced}
use Rattle.paint_owner.specs.Settled.{Settles, is_entered, settled, first_settled}
use Rattle.kept_layouts.specs.Here.{KeepsLayouts, HereStore, AddsMarked}
use Rattle.screen_owner.proofs.Bringing.{laid_is}
use Rattle.screen_owner.proofs.Settling.{same_by, either_way}
use Rattle.screen_owner.proofs.Showing.{same_forest}

-- the laws of kept layouts that a frame needs
pub record LayoutLaws : Type 0 where
  pub stores : (s : Setting) (t : Tree RenderObject) → IsTree t → KeepsLayouts s t → HereStore s (node_at t)
  pub more : (s : Setting) (old new : Handle → Option (TreeNode RenderObject)) → HereStore s old → AddsMarked old new → HereStore s new
  pub commits : (s : Setting) (t : Tree RenderObject) (es : List (PlanEntry Redraw)) (root : Option Handle) (inactive : List Handle) (g : Forest Redraw) (f : Forest RenderObject) (hs : List Handle) (p : Above)
      → HereStore s (node_at t) → IsPlan t es root inactive g → LaidAnew t root es hs → IsUpdated redrawn (value_at t) g f → HereAll (parts_of s) (layout_nodes (sweep layout_marks true hs p f))
  pub paints : (s : Setting) (also : Bool) (hs : List Handle) (old new : Tree RenderObject) → IsTree old → SetsMarks paint_marks also hs old new → KeepsLayouts s old → KeepsLayouts s new

-- what holds of one forest that the tree is
pub keeps_one : (s : Setting) (t : Tree RenderObject) (f : Forest RenderObject) → Is t f → HereAll (parts_of s) (layout_nodes f) → KeepsLayouts s t
keeps_one s t f is here g there = subst (λ (x : Forest RenderObject). HereAll (parts_of s) (layout_nodes x)) (same_forest t f g is there) here

pub synced_layouts : LayoutLaws → (s : Setting) (old new : Tree RenderObject) (top : Render) → Synced old new top → IsTree old → KeepsLayouts s old → KeepsLayouts s new
synced_layouts laws s old new top synced is keeps =
    let adds : AddsMarked (node_at old) (node_at synced.made) = record {
      keeps = λ k n there. synced.grows.keeps k (is_node (node_at old k) n there) ∙ there;
      bare = λ k n was there. ap (λ (y : TreeNode RenderObject). y.children) (synced.grows.fresh k n was there).2;
      flag = λ k n was there. ap (λ (y : TreeNode RenderObject). y.value.needs_layout) (synced.grows.fresh k n was there).2;
      below = λ k n was there. ap (λ (y : TreeNode RenderObject). y.value.layout_below) (synced.grows.fresh k n was there).2;
    } in
    let store = laws.more s (node_at old) (node_at synced.made) (laws.stores s old is keeps) adds in
    let laid = laid_is old new top synced in
    laws.paints s true synced.painted synced.laid_marked new (_, laid) synced.paints
    (keeps_one s synced.laid_marked (sweep layout_marks true synced.laid at_top synced.nodes) laid
    (laws.commits s synced.made synced.plan (Some synced.root) _ synced.updates synced.nodes synced.laid at_top store synced.is_plan synced.laid_anew synced.updated))

-- ---- flags for painting are no matter of a layout

nodes_settled : (f : Forest RenderObject) → layout_nodes (settled f) ≡ layout_nodes f
nodes_settled none = refl
nodes_settled (tree h o below rest) =
    λ i. tree h (same_by layout_node (settled below) o (λ b. refl) i) (either_way layout_nodes (is_entered o) (settled below) below (nodes_settled below) i) (nodes_settled rest i)

pub first_nodes : (f : Forest RenderObject) → layout_nodes (first_settled f) ≡ layout_nodes f
first_nodes none = refl
first_nodes (tree h o below rest) =
    λ i. tree h (same_by layout_node (settled below) o (λ b. refl) i) (either_way layout_nodes (is_entered o) (settled below) below (nodes_settled below) i) (layout_nodes rest)

pub settled_layouts : (s : Setting) (old new : Tree RenderObject) → IsTree old → Settles old new → KeepsLayouts s old → KeepsLayouts s new
settled_layouts s old new is settles keeps = λ g there.
    subst (λ (x : Forest LayoutNode). HereAll (parts_of s) x)
    (sym (first_nodes is.0) ∙ ap layout_nodes (same_forest new (first_settled is.0) g (settles.plain is.0 is.1) there))
    (keeps is.0 is.1)
