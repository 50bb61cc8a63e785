-- The heaviest so far is a part of the widget.
use Rattle.std.proofs.Common.{◌<◌, length}
use Rattle.widget_model.specs.Parts.{parts_in}
use Rattle.widget_model.proofs.sameness.heaviest_part.Given as goal

abbrev pub invariant-loop-i : goal.invariant-loop-i
invariant-loop-i l = l.heaviest < length (parts_in l.widget)
