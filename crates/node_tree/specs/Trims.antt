-- What the commit of a plan for a part does slot by slot. A list has a mark for each slot; slots past its end count as marked.
use Rattle.std.specs.Prelude.{◌≡◌, ◌==◌, ◌&&◌, ℕ, Bool, true, not, List, [], ◌∷◌, ◌++◌, filter, slice_index_or, Option, Some, None, option_map, if◌then◌else◌}
use Rattle.std.specs.List.{list_any}
use Rattle.fx_handles.specs.declared.Handle.{Handle}
use Rattle.fx_handles.specs.Arena.{Arena, get}
use Rattle.node_tree.specs.Forest.{TreeNode}
use Rattle.node_tree.specs.Tree.{children_of}
use Rattle.node_tree.specs.Edits.{KeepsHandles}
use Rattle.node_tree.specs.Plan.{PlanEntry}

-- whether the handle's slot is marked
abbrev pub marked : List Bool → Handle → Bool
marked marks h = slice_index_or marks h.index true

-- whether a handle of the list has this slot
abbrev pub in_slot : List Handle → ℕ → Bool
in_slot hs i = list_any (λ h. h.index == i) hs

-- whether an entry of the plan has a child with this slot
abbrev pub lists_slot : {U : Type 0} → List (PlanEntry U) → ℕ → Bool
lists_slot es i = list_any (λ e. in_slot e.children i) es

-- the handles whose slot isn't marked
abbrev pub unmarked : List Bool → List Handle → List Handle
unmarked marks hs = filter (λ h. not (marked marks h)) hs

-- the children of planned nodes whose slot isn't marked, entry by entry
abbrev pub unmarked_below : {T U : Type 0} → List Bool → Arena (TreeNode T) → List (PlanEntry U) → List Handle
unmarked_below marks a [] = []
unmarked_below marks a (e ∷ es) = unmarked marks (children_of (get a e.at)) ++ unmarked_below marks a es

-- the parent of a node of whose slot the plan speaks, or doesn't
abbrev pub trimmed_parent : List Bool → Bool → Option Handle → Option Handle
trimmed_parent named spoken None = None
trimmed_parent named spoken (Some p) = if marked named p && not spoken then None else Some p

-- a node without the children of marked slots
abbrev pub trimmed : {T : Type 0} → List Bool → Bool → TreeNode T → TreeNode T
trimmed named spoken n = record { parent = trimmed_parent named spoken n.parent; children = unmarked named n.children; value = n.value }

-- the node of an unmarked slot is trimmed
abbrev pub trimmed_at : {T : Type 0} → List Bool → List Bool → Handle → TreeNode T → TreeNode T
trimmed_at named spoken h n = if marked named h then n else trimmed named (marked spoken h) n

-- the nodes of all unmarked slots are trimmed
pub record Trims {T : Type 0} (named spoken : List Bool) (old new : Arena (TreeNode T)) : Type 0 where
  pub nodes : (k : Handle) → get new k ≡ option_map (trimmed_at named spoken k) (get old k)
  pub handles : KeepsHandles old new
