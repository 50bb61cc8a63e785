-- Render nodes each by itself, as they were made.
use Rattle.std.specs.Prelude.{◌≡◌, ℕ, [], map, None, option_map}
use Rattle.fx_handles.specs.Arena.{Arena}
use Rattle.node_tree.specs.Forest.{TreeNode, Forest}
use Rattle.node_tree.specs.Forest.Forest.{none, tree}
use Rattle.node_tree.specs.Tree.{Tree}
use Rattle.render_tree.specs.Edits.{new_object}
use Rattle.render_tree.specs.Object.{RenderObject}
use Rattle.render_tree.specs.Redraw.{Redraw, redrawn}

-- an arena with each value changed
abbrev pub arena_map : {T U : Type 0} → (T → U) → Arena T → Arena U
arena_map f a = record { slots = map (λ s. option_map (λ o. option_map f o) s) a.slots; generations = a.generations }

-- a node that stands in no list, and has everything to be done
abbrev pub scattered_node : TreeNode RenderObject → TreeNode RenderObject
scattered_node n = record { parent = None; children = []; value = new_object n.value.number n.value.widget }

-- a tree of which each node is so
abbrev pub scattered : Tree RenderObject → Tree RenderObject
scattered r = record { nodes = arena_map scattered_node r.nodes; root = None; inactive = [] }

-- a new node with this number, once a plan gave it its widget and what it is told
abbrev pub drawn_as : ℕ → Redraw → RenderObject
drawn_as n u = redrawn u (new_object n u.widget)

-- the nodes of a forest are new ones, as this plan makes them
abbrev pub MountedAs : Forest Redraw → Forest RenderObject → Type 0
MountedAs none none = Unit {0}
MountedAs none (tree k v below more) = ⊥
MountedAs (tree h u kids rest) none = ⊥
MountedAs (tree h u kids rest) (tree k v below more) =
    (h ≡ k) × (v ≡ drawn_as v.number u) × MountedAs kids below × MountedAs rest more
