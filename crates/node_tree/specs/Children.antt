-- A node's children as places in the forest below it.
use Rattle.std.specs.Prelude.{◌≡◌, ℕ, ◌+◌, Some, option_map}
use Rattle.fx_handles.specs.declared.Handle.{Handle}
use Rattle.node_tree.specs.Forest.{TreeNode, Forest, skip}
use Rattle.node_tree.specs.Forest.Forest.{none, tree}
use Rattle.node_tree.specs.Tree.{Tree, IsNode, node_at, value_at, subtree_at, Holds}

module _ {T : Type 0} where
  -- tree number i of the forest, which is that of the node c: its value, what is below it, and the trees after it
  pub record Nth (t : Tree T) (f : Forest T) (i : ℕ) (c : Handle) : Type 0 where
    pub value : T
    pub kids : Forest T
    pub skips : skip i f ≡ tree c value kids (skip (i + 1) f)
    pub value_is : value_at t c ≡ Some value
    pub subtree : subtree_at t c ≡ tree c value kids none
    pub holds : Holds t c

  -- every node that was there is as before
  abbrev pub Keeps : Tree T → Tree T → Type 0
  Keeps old new = (k : Handle) → IsNode old k → node_at new k ≡ node_at old k

  -- every node is as before but for its value, which is changed by what is at its handle
  abbrev pub MapsValues : (Handle → T → T) → Tree T → Tree T → Type 0
  MapsValues g old new = (k : Handle) → node_at new k ≡ option_map (λ (n : TreeNode T). record n { value = g k n.value }) (node_at old k)
