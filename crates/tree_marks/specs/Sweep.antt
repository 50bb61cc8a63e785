-- What one way through a tree comes to that marks all nodes which a test names. It says at each handle what `sweep` says of a
-- forest.
use Rattle.std.specs.Prelude.{◌≡◌, Bool, false, not, ◌&&◌, ◌||◌, List, [], ◌∷◌, slice_index_or, if◌then◌else◌}
use Rattle.std.specs.List.{list_any}
use Rattle.fx_handles.specs.declared.Handle.{Handle}
use Rattle.fx_handles.specs.Handle.{same}
use Rattle.node_tree.specs.Forest.{Forest}
use Rattle.node_tree.specs.Forest.Forest.{none, tree}
use Rattle.node_tree.specs.Tree.{Tree, subtree_at}
use Rattle.node_tree.specs.Children.{MapsValues}
use Rattle.node_tree.specs.Edits.{KeepsHandles}
use Rattle.tree_marks.specs.declared.sweep.AboveNode.{AboveNode}
use Rattle.tree_marks.specs.declared.sweep.MetBelow.{MetBelow}
use Rattle.tree_marks.specs.Marking.{Above, Marking, within, is_boundary}

-- the slot of a handle has a mark
abbrev pub in_slots : List Bool → Handle → Bool
in_slots slots h = slice_index_or slots h.index false

-- what the code knows of what a node has above it
abbrev pub above_of : AboveNode → Above
above_of place = record { top = place.top; hidden = place.hidden; asked = place.asked }

-- a named node stands in the forest
abbrev pub has_named : {V : Type 0} → (Handle → Bool) → Forest V → Bool
has_named q none = false
has_named q (tree k v kids rest) = q k || (has_named q kids || has_named q rest)

module _ {V : Type 0} (m : Marking V) where
  -- whether the climb from some named node comes out of the forest at its top
  abbrev pub named_climbs : (Handle → Bool) → Above → Forest V → Bool
  named_climbs q p none = false
  named_climbs q p (tree k v kids rest) =
      ((q k || named_climbs q (within m p v) kids) && not (is_boundary m p v)) || named_climbs q p rest

  -- the value at a handle, once one node has these marks
  abbrev pub marked_at : Handle → Bool → Bool → Handle → V → V
  marked_at h flag below k v = if same k h then m.marked flag below v else v

  -- the value at a handle, once the named nodes of a forest are marked
  abbrev pub swept : Bool → (Handle → Bool) → Above → Forest V → Handle → V → V
  swept also q p none k v = v
  swept also q p (tree h w kids rest) k v =
      swept also q p rest k
      (marked_at h ((q h || named_climbs q (within m p w) kids) && m.takes p.top w) (has_named q kids || (also && q h)) k
      (swept also q (within m p w) kids k v))

  -- the same of trees one after another
  abbrev pub each_swept : Bool → (Handle → Bool) → Above → (Handle → Forest V) → List Handle → Handle → V → V
  each_swept also q p at [] k v = v
  each_swept also q p at (h ∷ hs) k v = each_swept also q p at hs k (swept also q p (at h) k v)

  -- these trees of a tree are swept, and nothing else changes
  pub record SweepsTrees (also : Bool) (q : Handle → Bool) (p : Above) (hs : List Handle) (old new : Tree V) (found : MetBelow) : Type 0 where
    pub values : MapsValues (each_swept also q p (subtree_at old) hs) old new
    pub climbs : found.climbs ≡ list_any (λ h. named_climbs q p (subtree_at old h)) hs
    pub listed : found.listed ≡ list_any (λ h. has_named q (subtree_at old h)) hs
    pub root : new.root ≡ old.root
    pub inactive : new.inactive ≡ old.inactive
    pub handles : KeepsHandles old.nodes new.nodes
