use Rattle.std.proofs.Common.{◌≡◌, ◌||◌, ℕ, ◌<◌, length, take, get_or, true}
use Rattle.node_tree.specs.Trims.{in_slot}
use Rattle.node_tree.proofs.part.mark_all.Given as goal

abbrev pub invariant-loop-h : goal.invariant-loop-h
invariant-loop-h l =
    (length l.marks.items ≡ length l.fn.marks.items)
    × ((i : ℕ) → i < length l.fn.marks.items → get_or l.marks.items i true ≡ (get_or l.fn.marks.items i true || in_slot (take l.h-index l.handles) i))
