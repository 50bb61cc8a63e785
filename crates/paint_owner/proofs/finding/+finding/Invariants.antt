-- What is found so far of the children, with what is left to find, is all.
use Rattle.std.proofs.Common.{◌≡◌, ◌+◌, ◌*◌, ◌++◌}
use Rattle.node_tree.specs.Forest.{below, skip, size}
use Rattle.node_tree.specs.Tree.{subtree_at}
use Rattle.kept_layers.specs.Steps.{stale}
use Rattle.paint_owner.specs.Finding.{flagged, quiet, seen_of, both_seen}
use Rattle.paint_owner.proofs.finding.+finding.Given as goal

abbrev pub decreases-find_below : goal.decreases-find_below
decreases-find_below l = 2 * size (subtree_at l.tree.now.tree l.h)

abbrev pub decreases-find : goal.decreases-find
decreases-find l = 2 * size (subtree_at l.tree.now.tree l.h) + 1

abbrev pub invariant-find_below-loop-child : goal.invariant-find_below-loop-child
invariant-find_below-loop-child l =
    (l.found.stale.items ++ stale (skip l.child-index (below (subtree_at l.tree.tree l.fn.h))) ≡ l.fn.found.stale.items ++ stale (below (subtree_at l.tree.tree l.fn.h)))
    × (l.found.flagged.items ++ flagged (skip l.child-index (below (subtree_at l.tree.tree l.fn.h))) ≡ l.fn.found.flagged.items ++ flagged (below (subtree_at l.tree.tree l.fn.h)))
    × (l.found.quiet.items ++ quiet (skip l.child-index (below (subtree_at l.tree.tree l.fn.h))) ≡ l.fn.found.quiet.items ++ quiet (below (subtree_at l.tree.tree l.fn.h)))
    × (both_seen l.seen (seen_of (skip l.child-index (below (subtree_at l.tree.tree l.fn.h)))) ≡ seen_of (below (subtree_at l.tree.tree l.fn.h)))
