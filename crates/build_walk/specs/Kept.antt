-- The elements of the last frame from which a walk goes on.
use Rattle.std.specs.Prelude.{ℕ, Option, Some, None, List, [], ◌∷◌}
use Rattle.fx_expr.specs.declared.values.Value.{Value}
use Rattle.fx_handles.specs.declared.Handle.{Handle}
use Rattle.node_tree.specs.Forest.{Forest}
use Rattle.node_tree.specs.Tree.{Tree, subtree_at, Holds}
use Rattle.plain_tree.specs.PlainNode.{PlainNode, node, nodes_of as listed}
use Rattle.element_tree.specs.Element.{Element}
use Rattle.element_tree.specs.Nodes.{nodes_of}
use Rattle.render_tree.specs.Object.{RenderObject}
use Rattle.render_tree.specs.Tree.{object_at}
use Rattle.build_walk.specs.Past.{Pasts}
use Rattle.build_walk.specs.Renewing.{AreDrawn}
use Rattle.build_walk.specs.Telling.{TellPasts}

-- the plain node that an element is, over what is below it, where it is known how far the node with each number is scrolled
abbrev pub node_over : (ℕ → ℕ) → Element → Forest Element → PlainNode
node_over scrolled e kids = node e.number e.widget e.fields (scrolled e.number) e.index (listed (nodes_of scrolled kids))

abbrev pub first_node : List PlainNode → Option PlainNode
first_node [] = None
first_node (n ∷ ns) = Some n

-- the plain node of the element at a handle, where it is live
abbrev pub plain_at : (ℕ → ℕ) → Tree Element → Handle → Option PlainNode
plain_at scrolled t h = first_node (nodes_of scrolled (subtree_at t h))

abbrev pub plain_at_any : (ℕ → ℕ) → Tree Element → Option Handle → Option PlainNode
plain_at_any scrolled t None = None
plain_at_any scrolled t (Some h) = plain_at scrolled t h

-- a walk may go on from the element at a handle, which stands where the inherited names had these values: what is known of numbers is
-- what it and the elements below it tell, and their render nodes are there
pub record IsOldElement (pasts : Pasts) (scrolled : ℕ → ℕ) (olds : List Value) (t : Tree Element) (r : Tree RenderObject) (h : Handle) : Type 0 where
  pub holds : Holds t h
  pub tells : TellPasts pasts olds (subtree_at t h)
  pub drawn : AreDrawn (object_at r) scrolled (subtree_at t h)
