use Rattle.std.proofs.Common.{◌+◌, ◌*◌, ◌≡◌, take}
use Rattle.node_tree.specs.Forest.{size}
use Rattle.node_tree.specs.Tree.{children_at, subtree_at}
use Rattle.inherited.proofs.Reading.{Marked}
use Rattle.inherited.proofs.readers.+marking.Given as goal

-- first an element itself, and then what is below it
abbrev pub decreases-mark_at : goal.decreases-mark_at
decreases-mark_at l = 2 * size (subtree_at l.t.now.tree l.h) + 1

abbrev pub decreases-mark_readers : goal.decreases-mark_readers
decreases-mark_readers l = 2 * size (subtree_at l.t.now.tree l.under)

-- the readers at and below the first children are marked
abbrev pub invariant-mark_readers-loop-i : goal.invariant-mark_readers-loop-i
invariant-mark_readers-loop-i l = Marked l.fn.t.tree l.t.tree l.name (take l.i (children_at l.fn.t.tree l.under)) × (l.t.spent ≡ l.fn.t.spent)
