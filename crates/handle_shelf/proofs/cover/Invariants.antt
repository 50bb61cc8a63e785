use Rattle.std.proofs.Common.{◌≡◌, ℕ, ◌+◌, ◌-◌, length, get_or, None}
use Rattle.handle_shelf.proofs.cover.Given as goal

abbrev pub invariant-loop-slots : goal.invariant-loop-slots
invariant-loop-slots g l = (i : ℕ) → get_or l.slots.items i None ≡ get_or l.fn.slots.items i None

abbrev pub decreases-loop-slots : goal.decreases-loop-slots
decreases-loop-slots g l = l.index + 1 - length l.slots.items
