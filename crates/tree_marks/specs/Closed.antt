-- What marks keep: each is told to the nodes above it.
use Rattle.std.specs.Prelude.{◌≡◌, Bool, true, false, not, ◌||◌, List, []}
use Rattle.fx_handles.specs.declared.Handle.{Handle}
use Rattle.node_tree.specs.Forest.{Forest}
use Rattle.node_tree.specs.Forest.Forest.{none, tree}
use Rattle.tree_marks.specs.Marking.{Above, Marking, within, is_boundary}
use Rattle.tree_marks.specs.Marks.{listed}

module _ {V : Type 0} (m : Marking V) where
  -- some node of the forest has a flag
  abbrev pub any_flag : Forest V → Bool
  any_flag none = false
  any_flag (tree k v kids rest) = m.flag v || (any_flag kids || any_flag rest)

  -- some top has a mark
  abbrev pub any_mark : Forest V → Bool
  any_mark none = false
  any_mark (tree k v kids rest) = (m.flag v || m.below v) || any_mark rest

  -- each node with a flag has "something below" on every node above it
  abbrev pub HasBelow : Forest V → Type 0
  HasBelow none = Unit {0}
  HasBelow (tree k v kids rest) = (any_flag kids ≡ true → m.below v ≡ true) × HasBelow kids × HasBelow rest

  -- the parent of a node with a mark has "something below"; nothing is said of parents that are still to be marked
  abbrev pub IsLinkedBut : List Handle → Forest V → Type 0
  IsLinkedBut todo none = Unit {0}
  IsLinkedBut todo (tree k v kids rest) =
      (listed k todo ≡ false → any_mark kids ≡ true → m.below v ≡ true) × IsLinkedBut todo kids × IsLinkedBut todo rest

  -- the parent of each node with a mark has "something below"
  abbrev pub IsLinked : Forest V → Type 0
  IsLinked f = IsLinkedBut [] f

  -- each top with a flag ends marks; nothing is said of nodes that are still to be marked
  abbrev pub EndsTops : (Above → V → Bool) → List Handle → Above → Forest V → Type 0
  EndsTops ends todo p none = Unit {0}
  EndsTops ends todo p (tree k v kids rest) =
      (m.flag v ≡ true → listed k todo ≡ false → ends p v ≡ true) × EndsTops ends todo p rest

  -- below a node without a flag each child with a flag ends marks
  abbrev pub IsClosed : (Above → V → Bool) → List Handle → Above → Forest V → Type 0
  IsClosed ends todo p none = Unit {0}
  IsClosed ends todo p (tree k v kids rest) =
      (m.flag v ≡ false → listed k todo ≡ false → EndsTops ends todo (within m p v) kids)
      × IsClosed ends todo (within m p v) kids × IsClosed ends todo p rest

  -- what may end marks: each boundary does, and marks change nothing of it
  pub record AreEnds (ends : Above → V → Bool) : Type 0 where
    pub boundary : (p : Above) (v : V) → is_boundary m p v ≡ true → ends p v ≡ true
    pub steady : (p : Above) (f b : Bool) (v : V) → ends p (m.marked f b v) ≡ ends p v

  -- what the node comes to makes no difference to the parent's own: it isn't shown, or tells nothing above it, whoever asks
  abbrev pub is_apart : (V → Bool) → Above → V → Bool
  is_apart shown p v = not (shown v) || m.ends p.top p.hidden v
