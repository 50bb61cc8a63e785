-- The plain nodes that elements stand for.
use Rattle.std.specs.Prelude.{◌≡◌, ℕ, List, [], ◌∷◌}
use Rattle.node_tree.specs.Forest.{Forest}
use Rattle.node_tree.specs.Forest.Forest.{none, tree}
use Rattle.plain_tree.specs.PlainNode.{PlainNode, node, nodes_of as listed}
use Rattle.element_tree.specs.Element.{Element}

-- the nodes of a forest of elements, where it is known how far the node with each number is scrolled: elements don't tell
abbrev pub nodes_of : (ℕ → ℕ) → Forest Element → List PlainNode
nodes_of scrolled none = []
nodes_of scrolled (tree h e kids rest) =
    node e.number e.widget e.fields (scrolled e.number) e.index (listed (nodes_of scrolled kids)) ∷ nodes_of scrolled rest

-- two elements show the same: they differ by build flag, output and render node at most
pub record IsLike (e w : Element) : Type 0 where
  pub number : w.number ≡ e.number
  pub widget : w.widget ≡ e.widget
  pub fields : w.fields ≡ e.fields
  pub index : w.index ≡ e.index
