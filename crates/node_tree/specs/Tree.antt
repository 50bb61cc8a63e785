-- What a contract sees of a `Tree`: what is stored at each handle, the handle at the root, the tops of the
-- inactive subtrees, and the plain forest that this is.
use Rattle.std.specs.Prelude.{◌≡◌, ℕ, List, [], ◌∷◌, ◌++◌, Option, Some, None, IsSome, option_map, refl}
use Rattle.std.specs.Option.{option_to_list}
use Rattle.std.specs.Coded.{Coded, code_by, coded×, coded_ℕ, coded_list, coded_option}
use Rattle.fx_handles.specs.declared.Handle.{Handle}
use Rattle.fx_handles.specs.Arena.{Arena, arena_code, get, used_count}
use Rattle.node_tree.specs.Forest.{TreeNode, Forest, tops, In, IsDistinct, Stands, plain}

-- the nodes, the handle at the root, and the tops of the inactive subtrees in order
pub record Tree (T : Type 0) : Type 0 where
  pub nodes : Arena (TreeNode T)
  pub root : Option Handle
  pub inactive : List Handle

-- a handle is stored as the pair of its parts
abbrev pub handle_code : Coded Handle
handle_code = code_by (ℕ × ℕ) (coded× coded_ℕ coded_ℕ) (λ h. (h.index, h.generation)) (λ p. record { index = p.0; generation = p.1 }) (λ _. refl)

-- a node is stored as the tuple of its fields
abbrev pub node_code : {T : Type 0} → Coded T → Coded (TreeNode T)
node_code {T} code =
    code_by
    (Option Handle × (List Handle × T))
    (coded× (coded_option handle_code) (coded× (coded_list handle_code) code))
    (λ n. (n.parent, (n.children, n.value)))
    (λ p. record { parent = p.0; children = p.1.0; value = p.1.1 })
    (λ _. refl)

-- a tree is stored as the tuple of its fields
abbrev pub tree_code : {T : Type 0} → Coded T → Coded (Tree T)
tree_code {T} code =
    code_by
    (Arena (TreeNode T) × (Option Handle × List Handle))
    (coded× (arena_code (node_code code)) (coded× (coded_option handle_code) (coded_list handle_code)))
    (λ t. (t.nodes, (t.root, t.inactive)))
    (λ p. record { nodes = p.0; root = p.1.0; inactive = p.1.1 })
    (λ _. refl)

module _ {T : Type 0} where
  -- what is stored at a handle
  abbrev pub node_at : Tree T → Handle → Option (TreeNode T)
  node_at t h = get t.nodes h

  -- the handle is live
  abbrev pub IsNode : Tree T → Handle → Type 0
  IsNode t h = IsSome (node_at t h)

  abbrev pub parent_of : Option (TreeNode T) → Option Handle
  parent_of None = None
  parent_of (Some n) = n.parent

  abbrev pub children_of : Option (TreeNode T) → List Handle
  children_of None = []
  children_of (Some n) = n.children

  -- the parent's handle, where the handle is live and neither the root nor the top of an inactive subtree
  abbrev pub parent_at : Tree T → Handle → Option Handle
  parent_at t h = parent_of (node_at t h)

  -- the children's handles from first to last, and none where the handle isn't live
  abbrev pub children_at : Tree T → Handle → List Handle
  children_at t h = children_of (node_at t h)

  -- the value, where the handle is live
  abbrev pub value_at : Tree T → Handle → Option T
  value_at t h = option_map (λ n. n.value) (node_at t h)

  -- the handles that are nobody's child: the root, if there is one, and then the inactive tops
  abbrev pub tops_at : Tree T → List Handle
  tops_at t = option_to_list t.root ++ t.inactive

  -- the tree is this plain forest, of which the root's tree comes first, if there is a root: its tops are
  -- those of the forest, it stands in the nodes, no handle stands twice, and no other handle is live
  pub record Is (t : Tree T) (f : Forest T) : Type 0 where
    pub tops : tops_at t ≡ tops f
    pub stands : Stands (node_at t) None f
    pub distinct : IsDistinct f
    pub whole : (h : Handle) → IsNode t h → In h f

  -- the tree is some plain forest
  abbrev pub IsTree : Tree T → Type 0
  IsTree t = (f : Forest T) × Is t f

  -- the subtree of a node, as a plain forest of one tree
  abbrev pub subtree_at : Tree T → Handle → Forest T
  subtree_at t h = plain (used_count t.nodes) (node_at t) (h ∷ [])

  -- this forest is the subtree of the node: it is one tree with this top, it stands there, and no handle
  -- stands twice in it
  pub record StandsAt (t : Tree T) (h : Handle) (s : Forest T) : Type 0 where
    pub top : tops s ≡ h ∷ []
    pub stands : Stands (node_at t) (parent_at t h) s
    pub distinct : IsDistinct s

  -- the subtree of the node stands there
  abbrev pub Holds : Tree T → Handle → Type 0
  Holds t h = StandsAt t h (subtree_at t h)
