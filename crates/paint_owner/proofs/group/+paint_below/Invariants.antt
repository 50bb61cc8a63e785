-- What is painted so far of the children, with what is left to paint, is all, and so is the count.
use Rattle.std.proofs.Common.{◌≡◌, ◌+◌, ◌++◌, map}
use Rattle.delegates.specs.Table.{meant_in}
use Rattle.node_tree.specs.Forest.{below, skip, size}
use Rattle.node_tree.specs.Tree.{subtree_at}
use Rattle.kept_layers.specs.Group.{group_parts, group_count}
use Rattle.paint_owner.specs.View.{part_of}
use Rattle.paint_owner.proofs.group.+paint_below.Given as goal

abbrev pub invariant-loop-child : goal.invariant-loop-child
invariant-loop-child g l =
    (map part_of l.parts.items ++ group_parts l.tree.scale.cell (meant_in l.table (λ v. (g.dyn-1.0.entry v).1)) (skip l.child-index (below (subtree_at l.tree.tree l.fn.h))) l.from
    ≡ map part_of l.fn.parts.items ++ group_parts l.tree.scale.cell (meant_in l.table (λ v. (g.dyn-1.0.entry v).1)) (below (subtree_at l.tree.tree l.fn.h)) l.from)
    × (l.paints + group_count (skip l.child-index (below (subtree_at l.tree.tree l.fn.h))) ≡ l.fn.paints + group_count (below (subtree_at l.tree.tree l.fn.h)))

abbrev pub decreases-paint_below : goal.decreases-paint_below
decreases-paint_below g l = size (subtree_at l.tree.now.tree l.h)
