use Rattle.std.proofs.Common.{◌≡◌, take}
use Rattle.frame_owner.specs.Redrawing.{HasOrdered}
use Rattle.frame_owner.proofs.redrawing.put_orders.Given as goal

abbrev pub invariant-loop-change : goal.invariant-loop-change
invariant-loop-change l = HasOrdered (take l.change-index l.changes) l.fn.r.tree l.r.tree × (l.r.scale ≡ l.fn.r.scale) × (l.r.spent ≡ l.fn.r.spent)
