use Rattle.std.proofs.Common.{◌≡◌, ℕ, take, get_or, false}
use Rattle.node_tree.specs.Trims.{in_slot}
use Rattle.tree_marks.proofs.sweep.slots_of.Given as goal

-- the slots of the first handles are marked
abbrev pub invariant-loop-h : goal.invariant-loop-h
invariant-loop-h l = (i : ℕ) → get_or l.slots.items i false ≡ in_slot (take l.h-index l.hs) i
