use Rattle.std.proofs.Common.{◌≡◌}
use Rattle.frame_owner.proofs.Written.{HasWritten}
use Rattle.frame_owner.proofs.redrawing.put_widgets.Given as goal

abbrev pub invariant-loop-change : goal.invariant-loop-change
invariant-loop-change l = HasWritten l.changes l.change-index l.fn.r.tree l.r.tree × (l.r.scale ≡ l.fn.r.scale) × (l.r.spent ≡ l.fn.r.spent)
