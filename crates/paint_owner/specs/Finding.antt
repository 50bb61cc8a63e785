-- What the walk finds that follows the marks: no definition of painting, but lists of handles for the loops after it.
use Rattle.std.specs.Prelude.{ℕ, suc, Bool, false, not, ◌&&◌, ◌||◌, if◌then◌else◌, List, [], ◌∷◌, ◌++◌}
use Rattle.fx_handles.specs.declared.Handle.{Handle}
use Rattle.fx_geom.specs.declared.shapes.Size.{Size}
use Rattle.fx_geom.specs.Offset.{origin}
use Rattle.delegates.specs.Table.{Plug}
use Rattle.node_tree.specs.Forest.{Forest, below}
use Rattle.node_tree.specs.Forest.Forest.{none, tree}
use Rattle.node_tree.specs.Tree.{Tree, subtree_at}
use Rattle.tree_marks.specs.Closed.{any_mark}
use Rattle.render_tree.specs.Object.{RenderObject}
use Rattle.render_tree.specs.Marks.{paint_marks}
use Rattle.render_tree.specs.Readings.{needs_paint_of}
use Rattle.render_tree.specs.Tree.{object_at}
use Rattle.kept_layers.specs.Group.{is_boundary, opens, group_parts, group_count}
use Rattle.kept_layers.specs.Steps.{Told, is_nil, stale, is_listed}
use Rattle.paint_owner.specs.declared.finding.SeenBelow.{SeenBelow}
use Rattle.paint_owner.specs.Settled.{is_entered, settled}

-- the painted nodes of a kind, those below a node first
abbrev pub gathered : (RenderObject → Forest RenderObject → Bool) → Forest RenderObject → List Handle
gathered picks none = []
gathered picks (tree h o below rest) =
    (if is_entered o then gathered picks below else []) ++ (if picks o below then h ∷ [] else []) ++ gathered picks rest

-- a painted node with a flag
abbrev pub has_flag : RenderObject → Forest RenderObject → Bool
has_flag o below = o.shown && o.needs_paint

-- and one that loses its mark
abbrev pub is_quiet : RenderObject → Forest RenderObject → Bool
is_quiet o below = is_entered o && not (any_mark paint_marks (settled below))

abbrev pub flagged : Forest RenderObject → List Handle
flagged f = gathered has_flag f

abbrev pub quiet : Forest RenderObject → List Handle
quiet f = gathered is_quiet f

-- what is seen of a forest: whether a boundary of it is stale, and whether one of its tops is left with a flag or a mark
abbrev pub seen_of : Forest RenderObject → SeenBelow
seen_of f = record { stale = not (is_nil (stale f)); left = any_mark paint_marks (settled f) }

-- what is looked at below the first node
abbrev pub inner_of : Forest RenderObject → Forest RenderObject
inner_of none = none
inner_of (tree h o below rest) = if is_entered o then below else none

abbrev pub both_seen : SeenBelow → SeenBelow → SeenBelow
both_seen a b = record { stale = a.stale || b.stale; left = a.left || b.left }

-- marks are taken away at these handles
abbrev pub unmarked_listed : List Handle → Handle → RenderObject → RenderObject
unmarked_listed hs k o = if is_listed k hs then record o { paint_below = false } else o

-- what the tree tells of a boundary
abbrev pub told : Size → List Plug → Tree RenderObject → Handle → Told
told cell delegates t h = record { flag = needs_paint_of (object_at t h); group = group_parts cell delegates (below (subtree_at t h)) origin }

-- what it costs: itself and its group, where it is flagged
abbrev pub cost : Tree RenderObject → Handle → ℕ
cost t h = if needs_paint_of (object_at t h) then suc (group_count (below (subtree_at t h))) else 0

-- what the root's own parts cost
abbrev pub root_count : Forest RenderObject → ℕ
root_count none = 0
root_count (tree h o below rest) = if is_boundary o then 0 else suc (if opens o then group_count below else 0)

abbrev pub root_flag : Forest RenderObject → Bool
root_flag none = false
root_flag (tree h o below rest) = o.needs_paint
