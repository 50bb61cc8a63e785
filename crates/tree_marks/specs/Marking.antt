-- What marks on the nodes of a tree are, and how far they reach.
use Rattle.std.specs.Prelude.{◌≡◌, Bool, true, false, not, ◌&&◌, ◌||◌}

-- what a node has above it
pub record Above : Type 0 where
  -- nothing
  pub top : Bool
  -- a parent to which it makes no difference what its children come to
  pub hidden : Bool
  -- a node that asks all that is below it, at whatever distance
  pub asked : Bool

abbrev pub at_top : Above
at_top = record { top = true; hidden = false; asked = false }

-- one kind of marks on values of a type
pub record Marking (V : Type 0) : Type 0 where
  -- the node is to be done again
  pub flag : V → Bool
  -- something below the node may have a flag
  pub below : V → Bool
  -- the value with a flag, and with "something below", each where it is true here; no mark goes
  pub marked : Bool → Bool → V → V
  -- what the node comes to tells nothing above it, where nothing is above, or a parent to which its children make no difference
  pub ends : Bool → Bool → V → Bool
  -- it makes no difference to the node what its children come to
  pub hides : V → Bool
  -- the node asks all that is below it
  pub asks : V → Bool
  -- a mark that reaches the node gives it the flag, where nothing is above or something is
  pub takes : Bool → V → Bool

-- marks change nothing by which it is told how far they reach, and add up
pub record IsMarking {V : Type 0} (m : Marking V) : Type 0 where
  pub flag : (f b : Bool) (v : V) → m.flag (m.marked f b v) ≡ (m.flag v || f)
  pub below : (f b : Bool) (v : V) → m.below (m.marked f b v) ≡ (m.below v || b)
  pub twice : (f b g c : Bool) (v : V) → m.marked f b (m.marked g c v) ≡ m.marked (g || f) (c || b) v
  pub nothing : (v : V) → m.marked false false v ≡ v
  pub ends : (top hidden f b : Bool) (v : V) → m.ends top hidden (m.marked f b v) ≡ m.ends top hidden v
  pub hides : (f b : Bool) (v : V) → m.hides (m.marked f b v) ≡ m.hides v
  pub asks : (f b : Bool) (v : V) → m.asks (m.marked f b v) ≡ m.asks v
  pub takes : (top f b : Bool) (v : V) → m.takes top (m.marked f b v) ≡ m.takes top v

-- each node that a mark reaches gets the flag
abbrev pub IsWhole : {V : Type 0} → Marking V → Type 0
IsWhole {V} m = (top : Bool) (v : V) → m.takes top v ≡ true

module _ {V : Type 0} (m : Marking V) where
  -- what the children of a node have above them
  abbrev pub within : Above → V → Above
  within p v = record { top = false; hidden = m.hides v; asked = p.asked || m.asks v }

  -- a change of the node, or of what is below it, tells nothing above it
  abbrev pub is_boundary : Above → V → Bool
  is_boundary p v = not p.asked && m.ends p.top p.hidden v
