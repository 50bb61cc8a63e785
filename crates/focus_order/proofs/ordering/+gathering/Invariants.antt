-- How many nodes a call is given; and the spots so far, with those that are left to put, are all.
use Rattle.std.proofs.Common.{◌≡◌, ◌+◌, ◌*◌, drop}
use Rattle.std.specs.BTreeSet.{keys}
use Rattle.plain_tree.specs.Laid.{count_of}
use Rattle.laid_cursor.specs.Opened.{opened, laids_at}
use Rattle.screen_form.specs.FocusOrder.{spots_in, put_in}
use Rattle.focus_order.proofs.ordering.+gathering.Given as goal

abbrev pub decreases-gather : goal.decreases-gather
decreases-gather g l = 2 * count_of (g.C.LaidCursor.stands l.node) + 1

abbrev pub decreases-gather_below : goal.decreases-gather_below
decreases-gather_below g l = 2 * count_of (g.C.LaidCursor.stands l.node)

abbrev pub invariant-gather_below-loop-i : goal.invariant-gather_below-loop-i
invariant-gather_below-loop-i g l =
    put_in (keys l.spots) (spots_in (laids_at (drop l.i (g.C.LaidCursor.places l.node))) l.at)
    ≡ put_in (keys l.fn.spots) (spots_in (opened (g.C.LaidCursor.stands l.node)).below l.at)
