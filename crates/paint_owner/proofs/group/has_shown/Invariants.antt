-- None of the children so far is in the window.
use Rattle.std.proofs.Common.{◌≡◌}
use Rattle.node_tree.specs.Forest.{below, skip}
use Rattle.node_tree.specs.Tree.{subtree_at}
use Rattle.screen_form.specs.Painted.{has_child}
use Rattle.render_tree.specs.Plain.{laids_of}
use Rattle.paint_owner.proofs.group.has_shown.Given as goal

abbrev pub invariant-loop-child : goal.invariant-loop-child
invariant-loop-child l =
    has_child (laids_of (skip l.child-index (below (subtree_at l.tree.tree l.fn.h)))) ≡ has_child (laids_of (below (subtree_at l.tree.tree l.fn.h)))
