-- How many nodes a call is given; and none of the nodes that were asked is hit, and what they added is in the path.
use Rattle.std.proofs.Common.{◌≡◌, ◌++◌, ◌+◌, ◌*◌, false, map, drop}
use Rattle.plain_tree.specs.Laid.{count_of}
use Rattle.laid_cursor.specs.Opened.{laids_at}
use Rattle.screen_form.specs.Hits.{asked_last}
use Rattle.hit_testing.proofs.asking.+asking.Given as goal

abbrev pub decreases-ask : goal.decreases-ask
decreases-ask g l = 3 * count_of (g.C.LaidCursor.stands l.node) + 2

abbrev pub decreases-ask_inside : goal.decreases-ask_inside
decreases-ask_inside g l = 3 * count_of (g.C.LaidCursor.stands l.node) + 1

abbrev pub decreases-ask_below : goal.decreases-ask_below
decreases-ask_below g l = 3 * count_of (g.C.LaidCursor.stands l.node)

abbrev pub invariant-ask_below-loop-i : goal.invariant-ask_below-loop-i
invariant-ask_below-loop-i g l = record {
  missed : (asked_last (laids_at (drop l.i (g.C.LaidCursor.places l.node))) l.point).answer ≡ false;
  added : map g.C.LaidCursor.stands l.path.items
      ≡ map g.C.LaidCursor.stands l.fn.path.items ++ (asked_last (laids_at (drop l.i (g.C.LaidCursor.places l.node))) l.point).added;
}
