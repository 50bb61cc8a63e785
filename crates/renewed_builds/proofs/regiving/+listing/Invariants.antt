-- What is added so far, with what is left below, is all.
use Rattle.std.proofs.Common.{◌≡◌, ◌++◌}
use Rattle.node_tree.specs.Forest.{below, skip, size}
use Rattle.node_tree.specs.Tree.{subtree_at}
use Rattle.renewed_builds.specs.Several.{flagged_in}
use Rattle.renewed_builds.proofs.regiving.+listing.Given as goal

abbrev pub decreases-add_flagged : goal.decreases-add_flagged
decreases-add_flagged l = size (subtree_at l.t.now.tree l.h)

abbrev pub invariant-loop-child : goal.invariant-loop-child
invariant-loop-child l =
    l.flagged.items ++ flagged_in (skip l.child-index (below (subtree_at l.t.tree l.fn.h)))
    ≡ l.fn.flagged.items ++ flagged_in (subtree_at l.t.tree l.fn.h)
