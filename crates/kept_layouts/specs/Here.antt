-- What holds of the layouts that a tree of render nodes keeps, and what a rule reads of the delegates.
use Rattle.std.specs.Prelude.{◌≡◌, ℕ, true, false, List, [], Option, Some, None}
use Rattle.fx_handles.specs.declared.Handle.{Handle}
use Rattle.delegates.specs.Table.{meaning_of}
use Rattle.node_tree.specs.Forest.{TreeNode, Forest, tops, Stands}
use Rattle.node_tree.specs.Tree.{Tree, Is}
use Rattle.tree_marks.specs.Marks.{listed}
use Rattle.widget_model.specs.Look.{Look}
use Rattle.layout_form.specs.Layout.{delegate_of}
use Rattle.layout_form.specs.Object.{Setting}
use Rattle.render_tree.specs.Object.{RenderObject, object_look}
use Rattle.render_tree.specs.Tree.{object_at}
use Rattle.layout_walk.specs.Here.{Here, HereAll}
use Rattle.layout_walk.specs.Rules.{parts_of}
use Rattle.layout_rules.specs.Nodes.{layout_node, layout_nodes}

-- every node of the tree agrees with its children, by the rules of layout: what is stored of one that needn't be laid out is what its
-- rule makes of its children's frames, and its marks say what may have to be done
abbrev pub KeepsLayouts : Setting → Tree RenderObject → Type 0
KeepsLayouts s t = (f : Forest RenderObject) → Is t f → HereAll (parts_of s) (layout_nodes f)

-- the same of a store of nodes, by the forest that stands below each
pub record HereAt (s : Setting) (at : Handle → Option (TreeNode RenderObject)) (k : Handle) (n : TreeNode RenderObject) : Type 0 where
  pub kids : Forest RenderObject
  pub list : n.children ≡ tops kids
  pub stands : Stands at (Some k) kids
  pub here : Here (parts_of s) (layout_node n.value) (layout_nodes kids)
  pub all : HereAll (parts_of s) (layout_nodes kids)

abbrev pub HereStore : Setting → (Handle → Option (TreeNode RenderObject)) → Type 0
HereStore s at = (k : Handle) (n : TreeNode RenderObject) → at k ≡ Some n → HereAt s at k n

-- a store gets more nodes, which have no children yet, and both marks for layout
pub record AddsMarked (old new : Handle → Option (TreeNode RenderObject)) : Type 0 where
  pub keeps : (k : Handle) (n : TreeNode RenderObject) → old k ≡ Some n → new k ≡ Some n
  pub bare : (k : Handle) (n : TreeNode RenderObject) → old k ≡ None → new k ≡ Some n → n.children ≡ []
  pub flag : (k : Handle) (n : TreeNode RenderObject) → old k ≡ None → new k ≡ Some n → n.value.needs_layout ≡ true
  pub below : (k : Handle) (n : TreeNode RenderObject) → old k ≡ None → new k ≡ Some n → n.value.layout_below ≡ true

-- the rule of a kind reads the same of two settings: the size of a text cell, and what the delegate means that it names
pub record ReadsSame (s after : Setting) (look : Look) : Type 0 where
  pub cell : s.cell ≡ after.cell
  pub delegate : (name : List ℕ) → delegate_of look ≡ Some name → meaning_of s.delegates name ≡ meaning_of after.delegates name

-- so it is of each node that isn't on a list
abbrev pub ReadSameBut : Setting → Setting → Tree RenderObject → List Handle → Type 0
ReadSameBut s after t hs = (k : Handle) (o : RenderObject) → object_at t k ≡ Some o → listed k hs ≡ false → ReadsSame s after (object_look o)
