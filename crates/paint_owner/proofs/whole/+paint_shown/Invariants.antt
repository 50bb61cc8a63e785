-- What is painted so far of the children, with what is left to paint, is all, and so is the count.
use Rattle.std.proofs.Common.{◌≡◌, ◌+◌, ◌++◌, map}
use Rattle.delegates.specs.Table.{meant_in}
use Rattle.layer_tree.specs.View.{item_of}
use Rattle.node_tree.specs.Forest.{below, skip, size}
use Rattle.node_tree.specs.Tree.{subtree_at}
use Rattle.render_tree.specs.Plain.{laids_of}
use Rattle.screen_form.specs.Painted.{painted_all}
use Rattle.paint_owner.specs.Whole.{shown_count}
use Rattle.paint_owner.proofs.whole.+paint_shown.Given as goal

abbrev pub decreases-paint_shown : goal.decreases-paint_shown
decreases-paint_shown g l = size (subtree_at l.tree.now.tree l.h)

abbrev pub invariant-loop-child : goal.invariant-loop-child
invariant-loop-child g l =
    (map item_of l.items.items ++ painted_all l.tree.scale.cell (meant_in l.table (λ v. (g.dyn-1.0.entry v).1)) (laids_of (skip l.child-index (below (subtree_at l.tree.tree l.fn.h)))) l.from
    ≡ map item_of l.fn.items.items ++ painted_all l.tree.scale.cell (meant_in l.table (λ v. (g.dyn-1.0.entry v).1)) (laids_of (below (subtree_at l.tree.tree l.fn.h))) l.from)
    × (l.paints + shown_count (skip l.child-index (below (subtree_at l.tree.tree l.fn.h))) ≡ l.fn.paints + shown_count (below (subtree_at l.tree.tree l.fn.h)))
