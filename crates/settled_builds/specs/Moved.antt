-- Where a node stands in a tree of which other nodes took other widgets.
use Rattle.std.specs.Prelude.{◌≡◌, ℕ, Option, Some, None}
use Rattle.plain_tree.specs.PlainNode.{PlainNode, node, index_of}
use Rattle.settled_builds.specs.Places.{NodePlace}

-- a node at another place among the children of its parent
abbrev pub having_index : ℕ → PlainNode → PlainNode
having_index index (node number widget fields scroll old children) = node number widget fields scroll index children

-- the same node stands at two spots, but for its place among the children of its parent; as many depths are left there, and the inherited names
-- have the same values
pub record StandsAlike (p q : NodePlace) : Type 0 where
  pub node : q.node ≡ having_index (index_of q.node) p.node
  pub left : q.left ≡ p.left
  pub values : q.values ≡ p.values

-- there are two such spots, or none
abbrev pub AreSpotsAlike : Option NodePlace → Option NodePlace → Type 0
AreSpotsAlike None None = Unit {0}
AreSpotsAlike None (Some q) = ⊥
AreSpotsAlike (Some p) None = ⊥
AreSpotsAlike (Some p) (Some q) = StandsAlike p q
