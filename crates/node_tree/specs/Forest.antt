-- Trees as plain data. A forest is a list of trees, each with the handle and the value of its node and
-- the forest of its children. Nothing here speaks of slots or of how nodes are stored.
use Rattle.std.specs.Prelude.{◌≡◌, ℕ, zero, suc, ◌+◌, ◌≤◌, Bool, not, if◌then◌else◌, List, [], ◌∷◌, ◌++◌, filter, insert, Option, Some, None}
use Rattle.fx_handles.specs.declared.Handle.{Handle}
use Rattle.fx_handles.specs.Handle.{same}

-- what is stored at a handle: whose child the node is, its children from first to last, and its value
pub record TreeNode (T : Type 0) : Type 0 where
  pub parent : Option Handle
  pub children : List Handle
  pub value : T

-- the first tree's handle, its value, the forest of its children, and the trees after it
pub data Forest (T : Type 0) : Type 0 where
  none : Forest T
  tree : Handle → T → Forest T → Forest T → Forest T

-- the list without a handle
abbrev pub others_than : Handle → List Handle → List Handle
others_than h hs = filter (λ k. not (same k h)) hs

module _ {T : Type 0} where
  -- the node without h among its children
  abbrev pub without_child : Handle → TreeNode T → TreeNode T
  without_child h n = record n { children = others_than h n.children }

  -- the node k with h as child number i, where k is the parent
  abbrev pub with_child : Option Handle → ℕ → Handle → Handle → TreeNode T → TreeNode T
  with_child None i h k n = n
  with_child (Some p) i h k n = if same k p then record n { children = insert n.children i h } else n

  -- the node k with these children, where k is p
  abbrev pub with_order : Handle → List Handle → Handle → TreeNode T → TreeNode T
  with_order p hs k n = if same k p then record n { children = hs } else n

  -- a node with these children, where some are given
  abbrev pub with_order_if : Option (List Handle) → TreeNode T → TreeNode T
  with_order_if None n = n
  with_order_if (Some hs) n = record n { children = hs }

  -- the node k with this value, where k is h
  abbrev pub with_value_at : Handle → T → Handle → TreeNode T → TreeNode T
  with_value_at h w k n = if same k h then record n { value = w } else n

module _ {T : Type 0} where
  -- the handles at the top, from first to last
  abbrev pub tops : Forest T → List Handle
  tops none = []
  tops (tree h v below rest) = h ∷ tops rest

  -- the sum of a number for each node
  abbrev pub weigh : (Handle → ℕ) → Forest T → ℕ
  weigh w none = 0
  weigh w (tree h v below rest) = w h + weigh w below + weigh w rest

  -- how many nodes there are
  abbrev pub size : Forest T → ℕ
  size f = weigh (λ _. 1) f

  -- how often a handle stands in the forest
  abbrev pub count : Handle → Forest T → ℕ
  count h f = weigh (λ k. if same k h then 1 else 0) f

  -- the handle stands in the forest
  abbrev pub In : Handle → Forest T → Type 0
  In h f = 1 ≤ count h f

  -- no handle stands twice in the forest
  abbrev pub IsDistinct : Forest T → Type 0
  IsDistinct f = (h : Handle) → count h f ≤ 1

  -- the trees of one forest and then those of another
  abbrev pub append : Forest T → Forest T → Forest T
  append none g = g
  append (tree h v below rest) g = tree h v below (append rest g)

  -- the forest with trees put before its tree number i, or at its end where it is shorter
  abbrev pub place : ℕ → Forest T → Forest T → Forest T
  place zero s f = append s f
  place (suc i) s none = s
  place (suc i) s (tree h v below rest) = tree h v below (place i s rest)

  -- the forest with trees put among the children of p
  abbrev pub place_under : Handle → ℕ → Forest T → Forest T → Forest T
  place_under p i s none = none
  place_under p i s (tree h v below rest) =
      if same h p then tree h v (place i s below) rest
      else tree h v (place_under p i s below) (place_under p i s rest)

  -- the forest with trees put among the children of a node, or before all trees at the top
  abbrev pub paste : Option Handle → ℕ → Forest T → Forest T → Forest T
  paste None i s f = append s f
  paste (Some p) i s f = place_under p i s f

  -- the forest without the node h and all below it
  abbrev pub without : Handle → Forest T → Forest T
  without h none = none
  without h (tree k v below rest) =
      if same k h then without h rest else tree k v (without h below) (without h rest)

  -- the first of two forests that has a tree
  abbrev pub or_else : Forest T → Forest T → Forest T
  or_else none g = g
  or_else (tree h v below rest) g = tree h v below rest

  -- the node h with all below it, as a forest of one tree, where h stands in the forest
  abbrev pub tree_of : Handle → Forest T → Forest T
  tree_of h none = none
  tree_of h (tree k v below rest) =
      if same k h then tree k v below none else or_else (tree_of h below) (tree_of h rest)

  -- the forest with another value at h
  abbrev pub set_value : Handle → T → Forest T → Forest T
  set_value h w none = none
  set_value h w (tree k v below rest) =
      tree k (if same k h then w else v) (set_value h w below) (set_value h w rest)

  -- the first n trees
  abbrev pub first_trees : ℕ → Forest T → Forest T
  first_trees zero f = none
  first_trees (suc n) none = none
  first_trees (suc n) (tree h v below rest) = tree h v below (first_trees n rest)

  -- what is below the first tree's node
  abbrev pub below : Forest T → Forest T
  below none = none
  below (tree h v kids rest) = kids

  -- the forest without its first n trees
  abbrev pub skip : ℕ → Forest T → Forest T
  skip zero f = f
  skip (suc n) none = none
  skip (suc n) (tree h v kids rest) = skip n rest

  -- the trees of these handles, one after another
  abbrev pub trees_of : (Handle → Forest T) → List Handle → Forest T
  trees_of find [] = none
  trees_of find (h ∷ hs) = append (find h) (trees_of find hs)

  -- the tree that has this top
  abbrev pub top_tree : Handle → Forest T → Forest T
  top_tree h none = none
  top_tree h (tree k v below rest) = if same k h then tree k v below none else top_tree h rest

  -- the trees of these tops, one after another
  abbrev pub in_order : List Handle → Forest T → Forest T
  in_order hs f = trees_of (λ h. top_tree h f) hs

  -- the trees at these places, one after another
  abbrev pub trees_at : List ℕ → Forest T → Forest T
  trees_at [] f = none
  trees_at (i ∷ is) f = append (first_trees 1 (skip i f)) (trees_at is f)

  -- the forest with the children of p in this order
  abbrev pub reorder_under : Handle → List Handle → Forest T → Forest T
  reorder_under p hs none = none
  reorder_under p hs (tree h v below rest) =
      if same h p then tree h v (in_order hs below) rest
      else tree h v (reorder_under p hs below) (reorder_under p hs rest)

  -- its trees in an order, if one is given
  abbrev pub in_order_if : Option (List Handle) → Forest T → Forest T
  in_order_if None f = f
  in_order_if (Some hs) f = in_order hs f

  -- the forest with the children of each node in the order that is given for it, if one is
  abbrev pub reordered : (Handle → Option (List Handle)) → Forest T → Forest T
  reordered orders none = none
  reordered orders (tree h v below rest) = tree h v (in_order_if (orders h) (reordered orders below)) (reordered orders rest)

  -- the forest without the nodes of a kind and all below them
  abbrev pub pruned : (Handle → Bool) → Forest T → Forest T
  pruned drops none = none
  pruned drops (tree h v kids rest) =
      if drops h then pruned drops rest else tree h v (pruned drops kids) (pruned drops rest)

  -- every handle, each node before what is below it
  abbrev pub handles : Forest T → List Handle
  handles none = []
  handles (tree h v below rest) = h ∷ (handles below ++ handles rest)

  -- the forest stands in a store of nodes, below this parent: each handle has its parent, the list of its
  -- children's handles, and its value there
  abbrev pub Stands : (Handle → Option (TreeNode T)) → Option Handle → Forest T → Type 0
  Stands at p none = Unit {0}
  Stands at p (tree h v below rest) =
      (at h ≡ Some (record { parent = p; children = tops below; value = v }))
      × Stands at (Some h) below × Stands at p rest

  -- the tree of a handle and its later siblings, from what is stored at the handle
  abbrev pub plain_node : Handle → Option (TreeNode T) → (List Handle → Forest T) → List Handle → Forest T
  plain_node h None plain_at rest = none
  plain_node h (Some node) plain_at rest = tree h node.value (plain_at node.children) (plain_at rest)

  -- the forest that stands in a store below these handles, in at most so many steps
  unfoldable pub plain : ℕ → (Handle → Option (TreeNode T)) → List Handle → Forest T
  plain zero at hs = none
  plain (suc n) at [] = none
  plain (suc n) at (h ∷ hs) = plain_node h (at h) (plain n at) hs

-- the forest with each value changed by what is at its handle
abbrev pub map_values : {T U : Type 0} → (Handle → T → U) → Forest T → Forest U
map_values g none = none
map_values g (tree h v kids rest) = tree h (g h v) (map_values g kids) (map_values g rest)

-- two forests of one shape, with the same handles, whatever the values
abbrev pub SameShape : {T U : Type 0} → Forest T → Forest U → Type 0
SameShape none none = Unit {0}
SameShape none (tree k w below rest) = ⊥
SameShape (tree h v kids more) none = ⊥
SameShape (tree h v kids more) (tree k w below rest) = (h ≡ k) × SameShape kids below × SameShape more rest
