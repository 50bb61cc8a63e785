-- What always holds of a screen that isn't spent.
use Rattle.std.specs.Prelude.{◌≡◌, ℕ, true, false, Bool, []}
use Rattle.std.specs.BTreeMap.{BTreeMap}
use Rattle.fx_handles.specs.declared.Handle.{Handle}
use Rattle.node_tree.specs.Tree.{Tree, IsTree}
use Rattle.render_tree.specs.Object.{RenderObject}
use Rattle.render_sync.specs.Numbering.{IsNumbering, NumbersDiffer}

-- the index has the nodes by their numbers, and no node is beside the root's tree
pub record IsScreenTree (numbers : BTreeMap ℕ Handle) (t : Tree RenderObject) : Type 0 where
  pub numbering : IsNumbering numbers t
  pub alone : t.inactive ≡ []

abbrev pub StandsUnless : Bool → BTreeMap ℕ Handle → Tree RenderObject → Type 0
StandsUnless true numbers t = Unit {0}
StandsUnless false numbers t = IsScreenTree numbers t

-- no node is beside the root's tree, and no two nodes have one number
pub record StandsAlone (t : Tree RenderObject) : Type 0 where
  pub tree : IsTree t
  pub alone : t.inactive ≡ []
  pub differ : NumbersDiffer t
