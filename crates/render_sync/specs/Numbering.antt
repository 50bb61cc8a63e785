-- The handles of render nodes, by their numbers.
use Rattle.std.specs.Prelude.{◌≡◌, ℕ, Option, Some, option_map}
use Rattle.std.specs.BTreeMap.{BTreeMap, get}
use Rattle.std.specs.Ordering.{nat_cmp}
use Rattle.fx_handles.specs.declared.Handle.{Handle}
use Rattle.node_tree.specs.Tree.{Tree}
use Rattle.render_tree.specs.Object.{RenderObject}
use Rattle.render_tree.specs.Tree.{object_at}

-- the number of the node at a handle, where it is live
abbrev pub number_at : Tree RenderObject → Handle → Option ℕ
number_at t h = option_map (λ o. o.number) (object_at t h)

-- no two nodes have one number
abbrev pub NumbersDiffer : Tree RenderObject → Type 0
NumbersDiffer t = (n : ℕ) (h k : Handle) → number_at t h ≡ Some n → number_at t k ≡ Some n → h ≡ k

-- the index names exactly the nodes of the tree, by their numbers, which differ therefore
pub record IsNumbering (numbers : BTreeMap ℕ Handle) (t : Tree RenderObject) : Type 0 where
  pub to_node : (n : ℕ) (h : Handle) → get nat_cmp numbers n ≡ Some h → number_at t h ≡ Some n
  pub to_index : (n : ℕ) (h : Handle) → number_at t h ≡ Some n → get nat_cmp numbers n ≡ Some h
