use Rattle.std.proofs.Common.{◌≡◌, map, take}
use Rattle.frame_owner.specs.Redrawing.{entry_for}
use Rattle.frame_owner.proofs.redrawing.plan_changes.Given as goal

abbrev pub invariant-loop-change : goal.invariant-loop-change
invariant-loop-change l = l.plan.items ≡ map (entry_for l.r.tree) (take l.change-index l.changes)
