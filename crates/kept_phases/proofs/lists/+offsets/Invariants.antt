-- What is found so far of the children, with what is left to find, is all.
use Rattle.std.proofs.Common.{◌≡◌, ◌+◌, ◌*◌, ◌++◌}
use Rattle.node_tree.specs.Forest.{below, skip, size}
use Rattle.node_tree.specs.Tree.{subtree_at}
use Rattle.kept_phases.specs.Lists.{viewports}
use Rattle.kept_phases.proofs.lists.+offsets.Given as goal

abbrev pub decreases-offsets_below : goal.decreases-offsets_below
decreases-offsets_below l = 2 * size (subtree_at l.r.now.tree l.h)

abbrev pub decreases-offsets_at : goal.decreases-offsets_at
decreases-offsets_at l = 2 * size (subtree_at l.r.now.tree l.h) + 1

abbrev pub invariant-offsets_below-loop-child : goal.invariant-offsets_below-loop-child
invariant-offsets_below-loop-child l =
    l.offsets.items ++ viewports (skip l.child-index (below (subtree_at l.r.tree l.fn.h))) ≡ l.fn.offsets.items ++ viewports (below (subtree_at l.r.tree l.fn.h))
