use Rattle.std.proofs.Common.{◌≡◌, ℕ, ◌<◌, length, take, get_or, true}
use Rattle.node_tree.specs.Plan.{is_planned}
use Rattle.node_tree.proofs.plan.marks.Given as goal

abbrev pub invariant-loop-entry : goal.invariant-loop-entry
invariant-loop-entry g l = (length l.keep.items ≡ l.end) × ((i : ℕ) → i < l.end → get_or l.keep.items i true ≡ is_planned (take l.entry-index l.plan) i)
