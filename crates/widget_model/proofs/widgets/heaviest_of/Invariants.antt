-- The heaviest so far stands in the list.
use Rattle.std.proofs.Common.{◌<◌, length}
use Rattle.widget_model.proofs.widgets.heaviest_of.Given as goal

abbrev pub invariant-loop-i : goal.invariant-loop-i
invariant-loop-i l = l.heaviest < length l.widgets
