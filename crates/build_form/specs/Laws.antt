-- What the laws of builds say.
use Rattle.std.specs.Prelude.{◌≡◌, ℕ, ◌<◌, ◌≤◌, ◌⊎◌, Option, Some, None}
use Rattle.plain_tree.specs.At.{numbers_of}
use Rattle.plain_tree.specs.Laws.{AllDiffer}
use Rattle.plain_tree.specs.PlainNode.{PlainNode, node, PlainNodes, no_nodes, more_nodes}

-- this holds of each number of a tree
abbrev mutual
  pub NumbersAre : (ℕ → Type 0) → PlainNode → Type 0
  NumbersAre P (node number widget fields scroll index children) = P number × AllNumbersAre P children

  pub AllNumbersAre : (ℕ → Type 0) → PlainNodes → Type 0
  AllNumbersAre P no_nodes = Unit {0}
  AllNumbersAre P (more_nodes n ns) = NumbersAre P n × AllNumbersAre P ns

-- a tree has a number
abbrev mutual
  pub HasNumber : ℕ → PlainNode → Type 0
  HasNumber wanted (node number widget fields scroll index children) = (wanted ≡ number) ⊎ SomeHasNumber wanted children

  pub SomeHasNumber : ℕ → PlainNodes → Type 0
  SomeHasNumber wanted no_nodes = ⊥
  SomeHasNumber wanted (more_nodes n ns) = HasNumber wanted n ⊎ SomeHasNumber wanted ns

abbrev pub WasThere : Option PlainNode → ℕ → Type 0
WasThere None wanted = ⊥
WasThere (Some old) wanted = HasNumber wanted old

-- a number of the old tree, or one that was free
abbrev pub IsOldOrNew : Option PlainNode → ℕ → ℕ → Type 0
IsOldOrNew old next wanted = WasThere old wanted ⊎ (next ≤ wanted)

-- the numbers of a tree that a build makes after an old one or none, where one number was free before it and another is after it:
-- no two nodes have one number, each number was in the old tree or was free, and each is below the free one
pub record HasSurvivors (old : Option PlainNode) (next after : ℕ) (tree : PlainNode) : Type 0 where
  pub differ : AllDiffer (numbers_of tree)
  pub known : NumbersAre (IsOldOrNew old next) tree
  pub below : NumbersAre (λ number. number < after) tree
  pub grows : next ≤ after
