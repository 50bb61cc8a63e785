-- Which components below an element read an inherited name from it, or from above it.
use Rattle.std.specs.Prelude.{◌≡◌, ℕ, ◌==◌, Bool, true, false, not, ◌&&◌, ◌||◌, if◌then◌else◌, option_map}
use Rattle.std.specs.List.{list_any}
use Rattle.fx_handles.specs.declared.Handle.{Handle}
use Rattle.fx_handles.specs.Handle.{same}
use Rattle.node_tree.specs.Forest.{TreeNode, Forest}
use Rattle.node_tree.specs.Forest.Forest.{none, tree}
use Rattle.node_tree.specs.Tree.{Tree, node_at, subtree_at}
use Rattle.node_tree.specs.Edits.{KeepsHandles}
use Rattle.widget_model.specs.Look.{Look, inherit, component}
use Rattle.widget_model.specs.Plain.{look_of}
use Rattle.element_tree.specs.Element.{Element}
use Rattle.element_tree.specs.Edits.{with_flag}

-- a component reads the names that stand in its body, which its declaration lists
abbrev pub reads : ℕ → Look → Bool
reads name (component place props declaration) = list_any (λ n. n == name) declaration.inherited
reads name _ = false

-- an Inherit provides its name
abbrev pub provides : ℕ → Look → Bool
provides name (inherit other v) = other == name
provides name _ = false

-- the handle stands in the forest at a reader of the name that no provider of the name in the forest stands above
abbrev pub is_reader : ℕ → Handle → Forest Element → Bool
is_reader name k none = false
is_reader name k (tree h e kids rest) =
    ((same h k && reads name (look_of e.widget)) || (not (provides name (look_of e.widget)) && is_reader name k kids)) || is_reader name k rest

-- what is below the first node of a forest
abbrev pub below_first : Forest Element → Forest Element
below_first none = none
below_first (tree h e kids rest) = kids

-- the same of what is below an element of a tree
abbrev pub is_reader_below : Tree Element → Handle → ℕ → Handle → Bool
is_reader_below t h name k = is_reader name k (below_first (subtree_at t h))

-- an element's node, and a forest's elements, with build flags set where the test says so
abbrev pub flagged_if : Bool → TreeNode Element → TreeNode Element
flagged_if true n = record n { value = with_flag true n.value }
flagged_if false n = n

abbrev pub flagged : (Handle → Bool) → Forest Element → Forest Element
flagged p none = none
flagged p (tree h e kids rest) = tree h (if p h then with_flag true e else e) (flagged p kids) (flagged p rest)

-- the build flags of those elements are set, and nothing else changes
pub record Flags (old new : Tree Element) (p : Handle → Bool) : Type 0 where
  pub nodes : (k : Handle) → node_at new k ≡ option_map (flagged_if (p k)) (node_at old k)
  pub root : new.root ≡ old.root
  pub inactive : new.inactive ≡ old.inactive
  pub handles : KeepsHandles old.nodes new.nodes
