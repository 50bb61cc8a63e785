-- How many nodes a call is given; and the notes so far, with those that are left, are all.
use Rattle.std.proofs.Common.{◌≡◌, ◌++◌, ◌+◌, ◌*◌, drop}
use Rattle.plain_tree.specs.Laid.{count_of}
use Rattle.laid_cursor.specs.Opened.{opened, laids_at}
use Rattle.screen_form.specs.Remarks.{notes_in}
use Rattle.render_readers.proofs.remarks.+noting.Given as goal

abbrev pub decreases-push_notes : goal.decreases-push_notes
decreases-push_notes g l = 2 * count_of (g.C.LaidCursor.stands l.node) + 1

abbrev pub decreases-push_notes_below : goal.decreases-push_notes_below
decreases-push_notes_below g l = 2 * count_of (g.C.LaidCursor.stands l.node)

abbrev pub invariant-push_notes_below-loop-i : goal.invariant-push_notes_below-loop-i
invariant-push_notes_below-loop-i g l =
    l.notes.items ++ notes_in (laids_at (drop l.i (g.C.LaidCursor.places l.node))) ≡ l.fn.notes.items ++ notes_in (opened (g.C.LaidCursor.stands l.node)).below
