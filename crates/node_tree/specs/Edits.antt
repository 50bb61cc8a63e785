-- What one call changes, at each handle.
use Rattle.std.specs.Prelude.{◌≡◌, ◌≢◌, ◌==◌, ℕ, ◌+◌, ◌≤◌, List, [], length, Option, Some, None, IsSome, IfSome, option_map, if◌then◌else◌}
use Rattle.fx_handles.specs.declared.Handle.{Handle}
use Rattle.fx_handles.specs.declared.TheConstants.{LAST_GENERATION}
use Rattle.fx_handles.specs.Handle.{same, times, Among}
use Rattle.fx_handles.specs.Arena.{Arena, get, IsSpent, used_count, retired_count, generation_at, generation_sum, inserted_count}
use Rattle.std.specs.Option.{option_to_list}
use Rattle.node_tree.specs.Forest.{TreeNode, Forest, In, weigh, size, without, first_trees, others_than, without_child, with_child, with_order, with_order_if, with_value_at}
use Rattle.node_tree.specs.Tree.{Tree, IsNode, parent_of, parent_at, children_at, value_at, subtree_at, Is}

-- the removal of a node retires its slot: 1, or 0
abbrev pub retires : Handle → ℕ
retires h = if h.generation + 1 == LAST_GENERATION then 1 else 0

-- no handle becomes live or spent, and nothing is counted
pub record KeepsHandles {X : Type 0} (old new : Arena X) : Type 0 where
  pub generations : (index : ℕ) → generation_at new index ≡ generation_at old index
  pub spent : (k : Handle) → IsSpent old k → IsSpent new k
  pub used : used_count new ≡ used_count old
  pub retired : retired_count new ≡ retired_count old
  pub generation_sum : generation_sum new ≡ generation_sum old
  pub inserted : inserted_count new ≡ inserted_count old

-- the inactive tops without a node that is one of them, which has no parent
abbrev pub inactive_without : Option Handle → Handle → List Handle → List Handle
inactive_without None h hs = others_than h hs
inactive_without (Some p) h hs = hs

-- the orders that are given, and one more
abbrev pub and_order : Handle → List Handle → (Handle → Option (List Handle)) → Handle → Option (List Handle)
and_order h hs orders k = if same k h then Some hs else orders k

-- the root, where h isn't the root any more
abbrev pub root_without : Handle → Option Handle → Option Handle
root_without h None = None
root_without h (Some k) = if same k h then None else Some k

-- the root, where h has been put below q, or become the root
abbrev pub root_with : Option Handle → Handle → Option Handle → Option Handle
root_with None h root = Some h
root_with (Some p) h root = root

-- the root, where a node with this parent has been lifted out of its place
abbrev pub root_lifted : Option Handle → Option Handle → Option Handle
root_lifted None root = None
root_lifted (Some p) root = root

module _ {T : Type 0} where
  -- only its parent has the node among its children, and has it once, and the node isn't its own parent
  pub record HasOneParent (a : Arena (TreeNode T)) (h : Handle) : Type 0 where
    pub only : (k : Handle) (n : TreeNode T) → get a k ≡ Some n → Among h n.children → parent_of (get a h) ≡ Some k
    pub once : (k : Handle) (n : TreeNode T) → get a k ≡ Some n → times h n.children ≤ 1
    pub not_own : parent_of (get a h) ≢ Some h

  -- a node without children is put below q as child number i, or becomes the root. Its handle was neither
  -- live nor spent, and q alone changes besides, by its list of children
  pub record Adds (old new : Arena (TreeNode T)) (q : Option Handle) (i : ℕ) (h : Handle) (value : T) : Type 0 where
    pub was_absent : get old h ≡ None
    pub was_not_spent : h.generation ≡ generation_at old h.index
    pub found : get new h ≡ Some (record { parent = q; children = []; value = value })
    pub others : (k : Handle) → k ≢ h → get new k ≡ option_map (with_child q i h k) (get old k)
    pub generations : (index : ℕ) → generation_at new index ≡ generation_at old index
    pub spent : (k : Handle) → IsSpent old k → IsSpent new k
    pub used : used_count new ≡ used_count old + 1
    pub retired : retired_count new ≡ retired_count old
    pub generation_sum : generation_sum new ≡ generation_sum old
    pub inserted : inserted_count new ≡ inserted_count old + 1

  -- a node is taken away: its handle is spent, and no list of children has it
  pub record Takes (old new : Arena (TreeNode T)) (h : Handle) (value : T) : Type 0 where
    pub was : option_map (λ n. n.value) (get old h) ≡ Some value
    pub absent : get new h ≡ None
    pub others : (k : Handle) → k ≢ h → get new k ≡ option_map (without_child h) (get old k)
    pub now_spent : IsSpent new h
    pub spent : (k : Handle) → IsSpent old k → IsSpent new k
    pub raised : generation_at new h.index ≡ h.generation + 1
    pub generations : (index : ℕ) → index ≢ h.index → generation_at new index ≡ generation_at old index
    pub used : used_count new + 1 ≡ used_count old
    pub retired : retired_count new ≡ retired_count old + retires h
    pub generation_sum : generation_sum new ≡ generation_sum old + 1
    pub inserted : inserted_count new ≡ inserted_count old

  -- a node gets another parent, in whose list of children it is number i, and no other list has it
  pub record Hooks (old new : Arena (TreeNode T)) (h : Handle) (q : Option Handle) (i : ℕ) : Type 0 where
    pub node : (n : TreeNode T) → get old h ≡ Some n → get new h ≡ Some (record n { parent = q })
    pub others : (k : Handle) → k ≢ h → get new k ≡ option_map (with_child q i h k) (option_map (without_child h) (get old k))
    pub handles : KeepsHandles old new

  -- a node gets another parent, or none, and no list of children has it
  pub record Lifts (old new : Arena (TreeNode T)) (h : Handle) (q : Option Handle) : Type 0 where
    pub node : (n : TreeNode T) → get old h ≡ Some n → get new h ≡ Some (record n { parent = q })
    pub others : (k : Handle) → k ≢ h → get new k ≡ option_map (without_child h) (get old k)
    pub handles : KeepsHandles old new

  -- the children of a node stand in this order, and nothing else changes
  pub record Reorders (old new : Arena (TreeNode T)) (p : Handle) (hs : List Handle) : Type 0 where
    pub nodes : (k : Handle) → get new k ≡ option_map (with_order p hs k) (get old k)
    pub handles : KeepsHandles old new

  -- the children of each node stand in the order that is given for it, if one is, and nothing else changes
  pub record ReordersAll (old new : Arena (TreeNode T)) (orders : Handle → Option (List Handle)) : Type 0 where
    pub nodes : (k : Handle) → get new k ≡ option_map (with_order_if (orders k)) (get old k)
    pub handles : KeepsHandles old new

  -- a node gets another value, and nothing else changes
  pub record WritesValue (old new : Arena (TreeNode T)) (h : Handle) (value : T) : Type 0 where
    pub nodes : (k : Handle) → get new k ≡ option_map (with_value_at h value k) (get old k)
    pub handles : KeepsHandles old new

  -- every node has the value that it had, and no handle comes or goes
  abbrev pub KeepsValues : Tree T → Tree T → Type 0
  KeepsValues old new = (k : Handle) → value_at new k ≡ value_at old k

  -- so it is of every node but h
  abbrev pub KeepsOtherValues : Tree T → Tree T → Handle → Type 0
  KeepsOtherValues old new h = (k : Handle) → k ≢ h → value_at new k ≡ value_at old k

  -- there is a place for a new node: the parent is live and has so many children, or there is no root
  abbrev pub HasPlace : Tree T → Option Handle → ℕ → Type 0
  HasPlace t None i = t.root ≡ None
  HasPlace t (Some p) i = IsNode t p × (i ≤ length (children_at t p))

  -- a node that has a parent may become child number i of p: both are live, p is neither the node nor
  -- below it, and p has so many other children
  pub record CanMove (t : Tree T) (h p : Handle) (i : ℕ) : Type 0 where
    pub live : IsNode t h
    pub has_parent : IsSome (parent_at t h)
    pub parent : IsNode t p
    pub apart : In p (subtree_at t h) → ⊥
    pub place : i ≤ length (others_than h (children_at t p))

  -- the children of a live node may stand in this order: each of them is there as often as it was
  pub record CanReorder (t : Tree T) (p : Handle) (hs : List Handle) : Type 0 where
    pub live : IsNode t p
    pub kept : (k : Handle) → times k hs ≡ times k (children_at t p)

  -- so it is of each node for which an order is given
  abbrev pub CanReorderAll : Tree T → (Handle → Option (List Handle)) → Type 0
  CanReorderAll t orders = (h : Handle) → IfSome (orders h) (CanReorder t h)

  -- the node has a parent, or is the root
  pub record CanDetach (t : Tree T) (h : Handle) : Type 0 where
    pub live : IsNode t h
    pub active : times h t.inactive ≡ 0

  -- an inactive top may be put below q as child number i, or become the root where there is none
  abbrev pub CanHang : Tree T → Handle → Option Handle → ℕ → Type 0
  CanHang t h None i = t.root ≡ None
  CanHang t h (Some p) i = IsNode t p × (In p (subtree_at t h) → ⊥) × (i ≤ length (others_than h (children_at t p)))

  -- a live node without children
  pub record IsLeaf (t : Tree T) (h : Handle) : Type 0 where
    pub live : IsNode t h
    pub childless : children_at t h ≡ []

  -- a node is taken away with all that is below it, so many nodes. Their handles are spent, and no list of
  -- children has the node
  pub record RemovesBelow (old new : Tree T) (h : Handle) (n : ℕ) : Type 0 where
    pub counted : n ≡ size (subtree_at old h)
    pub gone : (k : Handle) → In k (subtree_at old h) → get new.nodes k ≡ None
    pub others : (k : Handle) → (In k (subtree_at old h) → ⊥) → get new.nodes k ≡ option_map (without_child h) (get old.nodes k)
    pub now_spent : (k : Handle) → In k (subtree_at old h) → IsSpent new.nodes k
    pub spent : (k : Handle) → IsSpent old.nodes k → IsSpent new.nodes k
    pub used : used_count new.nodes + n ≡ used_count old.nodes
    pub retired : retired_count new.nodes ≡ retired_count old.nodes + weigh retires (subtree_at old h)
    pub generation_sum : generation_sum new.nodes ≡ generation_sum old.nodes + n
    pub inserted : inserted_count new.nodes ≡ inserted_count old.nodes
    pub root : new.root ≡ root_without h old.root
    pub inactive : new.inactive ≡ others_than h old.inactive
    pub plain : (f : Forest T) → Is old f → Is new (without h f)

  -- all inactive subtrees are taken away, so many nodes, and their handles are spent. The root's tree stays as it is
  pub record DropsInactive (old new : Tree T) (n : ℕ) : Type 0 where
    pub root : new.root ≡ old.root
    pub inactive : new.inactive ≡ []
    pub others : (k : Handle) → IsNode new k → get new.nodes k ≡ get old.nodes k
    pub now_spent : (k : Handle) → IsNode old k → (IsNode new k → ⊥) → IsSpent new.nodes k
    pub spent : (k : Handle) → IsSpent old.nodes k → IsSpent new.nodes k
    pub used : used_count new.nodes + n ≡ used_count old.nodes
    pub retired : (f : Forest T) → Is old f
        → retired_count new.nodes + weigh retires (first_trees (length (option_to_list old.root)) f) ≡ retired_count old.nodes + weigh retires f
    pub generation_sum : generation_sum new.nodes ≡ generation_sum old.nodes + n
    pub inserted : inserted_count new.nodes ≡ inserted_count old.nodes
    pub plain : (f : Forest T) → Is old f → Is new (first_trees (length (option_to_list old.root)) f)
