-- What the nodes and the tree end as, where a `&mut` to a node's value is returned.
use Rattle.std.specs.Prelude.{Option, Some, None}
use Rattle.std.specs.Borrow.{LendsIf, Fml, RattleType, MutBor}
use Rattle.fx_handles.specs.declared.Handle.{Handle}
use Rattle.fx_handles.specs.Arena.{Arena, get, with_value}
use Rattle.fx_handles.specs.contracts.Arena.{the_row as arena_row}
use Rattle.node_tree.specs.Forest.{TreeNode}
use Rattle.node_tree.specs.Tree.{Tree}
use Rattle.node_tree.specs.contracts.nodes.TreeNode.{the_row as node_row}
use Rattle.node_tree.specs.contracts.Tree.{the_row as tree_row}

module _ {T : Type 0} where
  -- the nodes after a value was written at the handle, where this was stored there
  abbrev pub written_at : Arena (TreeNode T) → Handle → T → Option (TreeNode T) → Arena (TreeNode T)
  written_at a h value None = a
  written_at a h value (Some n) = with_value a h (record n { value = value })

-- once the borrow r ends, the node has the last value written through r; at `None` nothing has changed
abbrev pub lends_value : (T : RattleType) → MutBor (Arena (TreeNode T.Denot)) → Handle → Option (MutBor T.Denot) → Fml
lends_value T a h r = LendsIf (arena_row (node_row T)) T a r (λ value. written_at a.now h value (get a.now h)) a.now

module _ {T : Type 0} where
  -- the tree after a value was written at the handle
  abbrev pub tree_written : Tree T → Handle → T → Tree T
  tree_written t h value = record t { nodes = written_at t.nodes h value (get t.nodes h) }

-- once the borrow r ends, the tree's node has the last value written through r; at `None` the tree stays
-- as it is
abbrev pub lends_tree_value : (T : RattleType) → MutBor (Tree T.Denot) → Handle → Option (MutBor T.Denot) → Fml
lends_tree_value T t h r = LendsIf (tree_row T) T t r (tree_written t.now h) t.now
