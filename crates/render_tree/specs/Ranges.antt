-- Trees of which live ranges alone are taken away.
use Rattle.std.specs.Prelude.{◌≡◌, Bool, true, false, None, option_map, if◌then◌else◌}
use Rattle.fx_handles.specs.declared.Handle.{Handle}
use Rattle.node_tree.specs.Forest.{TreeNode, Forest}
use Rattle.node_tree.specs.Forest.Forest.{none, tree}
use Rattle.node_tree.specs.Tree.{Tree, node_at}
use Rattle.node_tree.specs.Edits.{KeepsHandles}
use Rattle.render_tree.specs.Object.{RenderObject}
use Rattle.render_tree.specs.Edits.{with_live}

-- a node, and the nodes of a forest, without a live range where the test says so
abbrev pub cleared_if : Bool → TreeNode RenderObject → TreeNode RenderObject
cleared_if true n = record n { value = with_live None n.value }
cleared_if false n = n

abbrev pub cleared : (Handle → Bool) → Forest RenderObject → Forest RenderObject
cleared p none = none
cleared p (tree h o kids rest) = tree h (if p h then with_live None o else o) (cleared p kids) (cleared p rest)

-- the live ranges of those nodes are taken away, and nothing else changes
pub record Clears (old new : Tree RenderObject) (p : Handle → Bool) : Type 0 where
  pub nodes : (k : Handle) → node_at new k ≡ option_map (cleared_if (p k)) (node_at old k)
  pub root : new.root ≡ old.root
  pub inactive : new.inactive ≡ old.inactive
  pub handles : KeepsHandles old.nodes new.nodes
