use Rattle.std.proofs.Common.{◌≡◌, take}
use Rattle.build_owner.proofs.committing.copy_plan.Given as goal

abbrev pub invariant-loop-entry : goal.invariant-loop-entry
invariant-loop-entry l = l.copies.items ≡ take l.entry-index l.plan
