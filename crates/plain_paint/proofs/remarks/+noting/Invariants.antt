-- The notes so far, with those of the children that are left, are all.
use Rattle.std.proofs.Common.{◌≡◌, ◌++◌, drop}
use Rattle.plain_tree.specs.LaidView.{laids_in}
use Rattle.screen_form.specs.Remarks.{notes_in}
use Rattle.plain_paint.proofs.remarks.+noting.Given as goal

abbrev pub invariant-push_notes_in-loop-child : goal.invariant-push_notes_in-loop-child
invariant-push_notes_in-loop-child l =
    l.notes.items ++ notes_in (laids_in (drop l.child-index l.children)) ≡ l.fn.notes.items ++ notes_in (laids_in l.children)
