-- How many nodes a call is given; and what is heard so far, with what is left to hear, is the whole.
use Rattle.std.proofs.Common.{◌≡◌, ◌+◌, ◌*◌, drop}
use Rattle.plain_tree.specs.Laid.{count_of}
use Rattle.laid_cursor.specs.Opened.{opened, laids_at}
use Rattle.semantics_tree.specs.Forming.{heard, after}
use Rattle.screen_form.specs.Fragment.{fragment_in}
use Rattle.semantics_tree.proofs.gathering.+gathering.Given as goal

abbrev pub decreases-gather : goal.decreases-gather
decreases-gather g l = 2 * count_of (g.C.LaidCursor.stands l.node) + 1

abbrev pub decreases-gather_below : goal.decreases-gather_below
decreases-gather_below g l = 2 * count_of (g.C.LaidCursor.stands l.node)

abbrev pub invariant-gather_below-loop-i : goal.invariant-gather_below-loop-i
invariant-gather_below-loop-i g l =
    after (heard l.above) (fragment_in (laids_at (drop l.i (g.C.LaidCursor.places l.node))) l.at)
    ≡ after (heard l.fn.above) (fragment_in (opened (g.C.LaidCursor.stands l.node)).below l.at)
