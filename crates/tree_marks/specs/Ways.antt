-- The way up from a node, by parents.
use Rattle.std.specs.Prelude.{◌≡◌, ℕ, suc, ◌+◌, ◌-◌, Bool, true, false, not, ◌||◌, ◌&&◌, nat_lt, List, [], ◌∷◌, ◌++◌, Option, Some, None, option_map, if◌then◌else◌}
use Rattle.fx_handles.specs.declared.Handle.{Handle}
use Rattle.fx_handles.specs.Handle.{same}
use Rattle.node_tree.specs.Forest.{TreeNode}
use Rattle.node_tree.specs.Tree.{Tree, node_at, parent_of}
use Rattle.tree_marks.specs.declared.climb.Climb.{Climb}
use Rattle.tree_marks.specs.Marking.{Above, at_top, Marking, within, is_boundary}

module _ {V : Type 0} where
  -- these are the nodes from a handle up to a top of the store, with their values
  abbrev pub IsWay : (Handle → Option (TreeNode V)) → Option Handle → List (Handle × V) → Type 0
  IsWay at o [] = o ≡ None
  IsWay at o (e ∷ es) = (o ≡ Some e.0) × (option_map (λ (n : TreeNode V). n.value) (at e.0) ≡ Some e.1) × IsWay at (parent_of (at e.0)) es

module _ {V : Type 0} (m : Marking V) where
  -- what stands below a way has above it
  abbrev pub place_of : List (Handle × V) → Above
  place_of [] = at_top
  place_of (e ∷ es) = within m (place_of es) e.1

  -- how many nodes of a way a mark of the first one reaches
  abbrev pub reach : List (Handle × V) → ℕ
  reach [] = 0
  reach (e ∷ es) = suc (if is_boundary m (place_of es) e.1 then 0 else reach es)

  -- the value at a handle after a mark has gone up a way, which goes on: so many nodes still get a flag, and the first has
  -- "something below" or not
  abbrev pub along : Bool → ℕ → List (Handle × V) → List (Handle × V) → Handle → V → V
  along below flags [] above k v = v
  along below flags (e ∷ es) above k v =
      along true (flags - 1) es above k (if same k e.0 then m.marked (nat_lt 0 flags && m.takes (place_of (es ++ above)).top v) below v else v)

  -- only marks differ
  abbrev pub OnlyMarks : Tree V → Tree V → Type 0
  OnlyMarks old new = (k : Handle) (n : TreeNode V) → node_at old k ≡ Some n → (f : Bool) × (b : Bool) × (node_at new k ≡ Some (record n { value = m.marked f b n.value }))

  -- a node in a slot has both marks, so that setting marks leaves it as it is
  abbrev pub SlotIsMarked : Tree V → ℕ → Type 0
  SlotIsMarked t index = (k : Handle) (n : TreeNode V) → k.index ≡ index → node_at t k ≡ Some n → m.marked true true n.value ≡ n.value

  -- each node has
  abbrev pub AreMarked : Tree V → Type 0
  AreMarked t = (k : Handle) (n : TreeNode V) → node_at t k ≡ Some n → m.marked true true n.value ≡ n.value

-- what is known of a way with one node more, which asks or not, and ends marks or not
abbrev pub stepped : Climb → Bool → Bool → Climb
stepped c asks ends =
    if c.rising || asks then record { steps = c.steps + 1; flags = c.steps + 1; rising = not ends }
    else record { steps = c.steps + 1; flags = c.flags; rising = false }
