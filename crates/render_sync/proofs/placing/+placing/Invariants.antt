-- The nodes for the first render nodes are made, and there is room for those of the others.
use Rattle.std.proofs.Common.{◌≡◌, ◌+◌, ◌*◌, ◌≤◌, IsSome, take}
use Rattle.std.specs.BTreeMap.{get}
use Rattle.std.specs.Ordering.{nat_cmp}
use Rattle.fx_handles.specs.Arena.{used_count, retired_count, inserted_count}
use Rattle.plain_tree.specs.Render.{count_of, counts_of, renders_of}
use Rattle.render_sync.specs.Numbering.{IsNumbering}
use Rattle.render_sync.specs.Renders.{AllNumbers}
use Rattle.render_sync.specs.Synced.{Grows}
use Rattle.render_sync.proofs.placing.+placing.Given as goal

abbrev pub invariant-place_nodes-loop-node : goal.invariant-place_nodes-loop-node
invariant-place_nodes-loop-node l =
    IsNumbering l.numbers l.tree.tree
    × AllNumbers (λ n. IsSome (get nat_cmp l.numbers n)) (renders_of (take l.node-index l.nodes))
    × Grows l.fn.tree.tree l.tree.tree
    × (used_count l.tree.tree.nodes + retired_count l.tree.tree.nodes
    ≤ used_count l.fn.tree.tree.nodes + retired_count l.fn.tree.tree.nodes + counts_of (renders_of (take l.node-index l.nodes)))
    × (inserted_count l.tree.tree.nodes ≤ inserted_count l.fn.tree.tree.nodes + counts_of (renders_of (take l.node-index l.nodes)))
    × (l.tree.spent ≡ l.fn.tree.spent) × (l.tree.scale ≡ l.fn.tree.scale)

abbrev pub decreases-place_node : goal.decreases-place_node
decreases-place_node l = 2 * count_of l.node.now

abbrev pub decreases-place_nodes : goal.decreases-place_nodes
decreases-place_nodes l = 2 * counts_of (renders_of l.nodes.now) + 1
