use Rattle.std.proofs.Common.{◌≡◌, ◌||◌, ℕ, ◌<◌, length, take, get_or, true}
use Rattle.node_tree.specs.Trims.{lists_slot}
use Rattle.node_tree.proofs.part.mark_listed.Given as goal

abbrev pub invariant-loop-entry : goal.invariant-loop-entry
invariant-loop-entry g l =
    (length l.marks.items ≡ length l.fn.marks.items)
    × ((i : ℕ) → i < length l.fn.marks.items → get_or l.marks.items i true ≡ (get_or l.fn.marks.items i true || lists_slot (take l.entry-index l.plan) i))
