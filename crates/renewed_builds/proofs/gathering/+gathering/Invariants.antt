-- What was gathered so far, with what is left, is all; and where all so far could take their widgets, it is left to the others.
use Rattle.std.proofs.Common.{◌≡◌, ◌+◌, ◌*◌, ◌++◌, Some, drop, map}
use Rattle.node_tree.specs.Forest.{below, size}
use Rattle.node_tree.specs.Tree.{subtree_at}
use Rattle.widget_model.specs.View.{shared}
use Rattle.settled_builds.specs.Retaken.{all_asked, gathered}
use Rattle.renewed_builds.specs.Renewing.{each_can_take, each_changing, each_moving}
use Rattle.renewed_builds.proofs.gathering.+gathering.Given as goal

abbrev pub decreases-gather_below : goal.decreases-gather_below
decreases-gather_below l = 2 * size (subtree_at l.t.now.tree l.h)

abbrev pub decreases-gather_from : goal.decreases-gather_from
decreases-gather_from l = 2 * size (subtree_at l.t.now.tree l.h) + 1

abbrev pub invariant-gather_below-loop-i : goal.invariant-gather_below-loop-i
invariant-gather_below-loop-i l =
    let all = below (subtree_at l.t.tree l.fn.h) in
    let ws = map shared l.widgets in
    let ms = map (λ j. Some j) l.places in
    (all_asked (each_can_take all) (drop l.i ws) (drop l.i ms) ≡ all_asked (each_can_take all) ws ms)
    × (l.changes.items ++ gathered (each_changing all) l.i (drop l.i ws) (drop l.i ms) ≡ l.fn.changes.items ++ gathered (each_changing all) 0 ws ms)
    × (l.moves.items ++ gathered (each_moving 0 all) l.i (drop l.i ws) (drop l.i ms) ≡ l.fn.moves.items ++ gathered (each_moving 0 all) 0 ws ms)
