-- Trees that are put after the last child of a node.
use Rattle.std.specs.Prelude.{◌≡◌, List, [], if◌then◌else◌, Option, Some, None}
use Rattle.fx_handles.specs.declared.Handle.{Handle}
use Rattle.fx_handles.specs.Handle.{same}
use Rattle.node_tree.specs.Forest.{Forest, append}
use Rattle.node_tree.specs.Forest.Forest.{none, tree}
use Rattle.node_tree.specs.Tree.{Tree, IsNode, children_at}

module _ {T : Type 0} where
  -- the forest with trees put after the last child of p
  abbrev pub put_under : Handle → Forest T → Forest T → Forest T
  put_under p s none = none
  put_under p s (tree h v below rest) =
      if same h p then tree h v (append below s) rest
      else tree h v (put_under p s below) (put_under p s rest)

  -- the forest with trees put after the last child of a node, or before all trees at the top
  abbrev pub put_last : Option Handle → Forest T → Forest T → Forest T
  put_last None s f = append s f
  put_last (Some p) s f = put_under p s f

  -- the children of a node, if there is one
  abbrev pub children_below : Tree T → Option Handle → List Handle
  children_below t None = []
  children_below t (Some p) = children_at t p

  -- there is a place for a new node: the parent is live, or there is no root
  abbrev pub CanMount : Tree T → Option Handle → Type 0
  CanMount t None = t.root ≡ None
  CanMount t (Some p) = IsNode t p
