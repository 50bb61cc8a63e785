-- A plan: for each node of a whole new tree its place and an update of its value, children before their
-- parent.
use Rattle.std.specs.Prelude.{◌≡◌, ◌==◌, ℕ, ◌+◌, ◌≤◌, Bool, true, false, List, [], ◌∷◌, ◌++◌, map, slice_index_or, Option, Some, None, option_map, if◌then◌else◌, refl}
use Rattle.std.specs.Option.{option_to_list}
use Rattle.std.specs.List.{list_any}
use Rattle.fx_handles.specs.Arena.{Arena, get, IsLive, IsSpent, used_count, retired_count, inserted_count}
use Rattle.std.specs.Coded.{Coded, code_by, coded×, coded_list, coded_option}
use Rattle.fx_handles.specs.declared.Handle.{Handle}
use Rattle.fx_handles.specs.Handle.{same, times, AreDistinct}
use Rattle.node_tree.specs.Forest.{TreeNode, Forest, tops, In, IsDistinct}
use Rattle.node_tree.specs.Forest.Forest.{none, tree}
use Rattle.node_tree.specs.Tree.{Tree, IsNode, handle_code}

-- a node's handle, its parent, its children, and the update of its value
pub record PlanEntry (U : Type 0) : Type 0 where
  pub at : Handle
  pub parent : Option Handle
  pub children : List Handle
  pub update : U

-- an entry is stored as the tuple of its fields
abbrev pub plan_entry_code : {U : Type 0} → Coded U → Coded (PlanEntry U)
plan_entry_code {U} code =
    code_by
    (Handle × (Option Handle × (List Handle × U)))
    (coded× handle_code (coded× (coded_option handle_code) (coded× (coded_list handle_code) code)))
    (λ e. (e.at, (e.parent, (e.children, e.update))))
    (λ p. record { at = p.0; parent = p.1.0; children = p.1.1.0; update = p.1.1.1 })
    (λ _. refl)

-- the plan of a forest of updates below a parent
abbrev pub entries : {U : Type 0} → Option Handle → Forest U → List (PlanEntry U)
entries p none = []
entries p (tree h u kids rest) =
    entries (Some h) kids ++ (record { at = h; parent = p; children = tops kids; update = u } ∷ entries p rest)

-- the handles that a plan names
abbrev pub planned : {U : Type 0} → List (PlanEntry U) → List Handle
planned es = map (λ e. e.at) es

-- the first entry of a plan for this handle
abbrev pub entry_at : {U : Type 0} → List (PlanEntry U) → Handle → Option (PlanEntry U)
entry_at [] k = None
entry_at (e ∷ es) k = if same k e.at then Some e else entry_at es k

-- the plan has for each handle the entry that this forest of updates gives it, in any order, and none twice. The forest's tops
-- are the root, if there is one, and then these inactive tops. Its handles are live, and none stands twice
pub record IsPlan {T U : Type 0} (t : Tree T) (es : List (PlanEntry U)) (root : Option Handle) (inactive : List Handle) (g : Forest U) : Type 0 where
  pub entry : (k : Handle) → entry_at es k ≡ entry_at (entries None g) k
  pub once : AreDistinct (planned es)
  pub tops : option_to_list root ++ inactive ≡ tops g
  pub distinct : IsDistinct g
  pub live : (k : Handle) → In k g → IsNode t k

module _ {T U : Type 0} (updated : U → T → T) where
  -- a node after its entry: it has the entry's place, and of its value only what the update changes
  abbrev pub relinked : PlanEntry U → TreeNode T → TreeNode T
  relinked e n = record { parent = e.parent; children = e.children; value = updated e.update n.value }

  -- the node at k after an entry
  abbrev pub relinked_at : PlanEntry U → Handle → TreeNode T → TreeNode T
  relinked_at e k n = if same k e.at then relinked e n else n

  -- what is at the handle k after a plan, where this was there: nothing, unless the plan names k
  abbrev pub committed : List (PlanEntry U) → Handle → Option (TreeNode T) → Option (TreeNode T)
  committed [] k o = None
  committed (e ∷ es) k o = if same k e.at then option_map (relinked e) o else committed es k o

  -- what is at the handle k after the nodes of a plan were written, where this was there
  abbrev pub written : List (PlanEntry U) → Handle → Option (TreeNode T) → Option (TreeNode T)
  written [] k o = o
  written (e ∷ es) k o = if same k e.at then option_map (relinked e) o else written es k o

  -- the planned nodes are the only ones, each with its place and its value updated. What else was live is
  -- spent. Slots may be retired, and none is filled
  pub record Commits (es : List (PlanEntry U)) (old new : Arena (TreeNode T)) : Type 0 where
    pub nodes : (k : Handle) → get new k ≡ committed es k (get old k)
    pub spent : (k : Handle) → IsSpent old k → IsSpent new k
    pub now_spent : (k : Handle) → IsLive old k → times k (planned es) ≡ 0 → IsSpent new k
    pub retired : retired_count old ≤ retired_count new
    pub filled : used_count new + retired_count new ≤ used_count old + retired_count old
    pub inserted : inserted_count new ≡ inserted_count old

  -- the second forest is the first one with each value updated, where these were the values
  abbrev pub IsUpdated : (Handle → Option T) → Forest U → Forest T → Type 0
  IsUpdated at none none = Unit {0}
  IsUpdated at none (tree k v below rest) = ⊥
  IsUpdated at (tree h u kids more) none = ⊥
  IsUpdated at (tree h u kids more) (tree k v below rest) =
      (h ≡ k) × (option_map (updated u) (at h) ≡ Some v) × IsUpdated at kids below × IsUpdated at more rest

-- some entry of the plan is for the slot with this index
abbrev pub is_planned : {U : Type 0} → List (PlanEntry U) → ℕ → Bool
is_planned es i = list_any (λ e. e.at.index == i) es

-- what is left of the nodes: at a slot that is marked the node stays, and at any other there is none.
-- Slots past the end of the list count as marked
pub record Sweeps {X : Type 0} (keep : List Bool) (old new : Arena X) : Type 0 where
  pub kept : (k : Handle) → slice_index_or keep k.index true ≡ true → get new k ≡ get old k
  pub gone : (k : Handle) → slice_index_or keep k.index true ≡ false → get new k ≡ None
  pub spent : (k : Handle) → IsSpent old k → IsSpent new k
  pub now_spent : (k : Handle) → slice_index_or keep k.index true ≡ false → IsLive old k → IsSpent new k
  pub retired : retired_count old ≤ retired_count new
  pub filled : used_count new + retired_count new ≤ used_count old + retired_count old
  pub inserted : inserted_count new ≡ inserted_count old
