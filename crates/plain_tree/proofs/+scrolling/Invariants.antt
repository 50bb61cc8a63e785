-- The nodes so far are scrolled, the others as before.
use Rattle.std.proofs.Common.{◌≡◌, ◌++◌, drop, take, map}
use Rattle.plain_tree.specs.Offsets.{scrolled_by, kept_at}
use Rattle.plain_tree.proofs.+scrolling.Given as goal

abbrev pub invariant-scrolling::scroll_all_by-loop-i : goal.invariant-scrolling::scroll_all_by-loop-i
invariant-scrolling::scroll_all_by-loop-i l = l.nodes ≡ map (scrolled_by (kept_at l.offsets)) (take l.i l.fn.nodes) ++ drop l.i l.fn.nodes
