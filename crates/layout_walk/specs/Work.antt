-- How much a flush may do, by the marks alone.
use Rattle.std.specs.Prelude.{◌≡◌, ℕ, ◌+◌, true, false, if◌then◌else◌, Option, Some, None, List}
use Rattle.node_tree.specs.Forest.{Forest, size}
use Rattle.node_tree.specs.Forest.Forest.{none, tree}
use Rattle.layout_form.specs.declared.asks.Ask.{Ask}
use Rattle.layout_walk.specs.Node.{LayoutNode, asked}
use Rattle.layout_walk.specs.Rule.{ask_of, later}

-- the nodes in the window that have to be laid out, each with all that is below it
abbrev pub due_count : Forest LayoutNode → ℕ
due_count none = 0
due_count (tree h v kids rest) = (if v.shown then (if v.needs_layout then 1 + size kids else due_count kids) else 0) + due_count rest

-- each tree that is asked is in the window, and has to be laid out or is asked as in its last layout
pub record IsKnownAs (ask : Ask) (v : LayoutNode) : Type 0 where
  pub shown : v.shown ≡ true
  pub asked : v.needs_layout ≡ false → asked v ≡ Some ask

abbrev pub KnownAs : Option Ask → LayoutNode → Type 0
KnownAs None v = Unit {0}
KnownAs (Some ask) v = IsKnownAs ask v

abbrev pub AreKnown : List (Option Ask) → Forest LayoutNode → Type 0
AreKnown asks none = Unit {0}
AreKnown asks (tree h v kids rest) = KnownAs (ask_of asks) v × AreKnown (later asks) rest
