-- Below a node without children no node has a flag.
use Rattle.std.proofs.Common.{◌≡◌, false, [], ◌∷◌, refl, ◌∙◌}
use Rattle.fx_handles.specs.declared.Handle.{Handle}
use Rattle.node_tree.specs.Forest.{Forest, tops, below}
use Rattle.node_tree.specs.Forest.Forest.{none, tree}
use Rattle.node_tree.specs.Tree.{Tree, children_at, subtree_at}
use Rattle.tree_marks.specs.Marking.{Marking}
use Rattle.tree_marks.specs.Closed.{any_flag}

no_flag : {V : Type 0} (m : Marking V) (f : Forest V) → tops f ≡ [] → any_flag m f ≡ false
no_flag m none e = refl
no_flag m (tree h v kids rest) e = absurd (cc)

pub calm_leaf : {V : Type 0} (m : Marking V) (t : Tree V) (h : Handle) → tops (below (subtree_at t h)) ≡ children_at t h → children_at t h ≡ [] → any_flag m (below (subtree_at t h)) ≡ false
calm_leaf m t h listed empty = no_flag m (below (subtree_at t h)) (listed ∙ empty)
