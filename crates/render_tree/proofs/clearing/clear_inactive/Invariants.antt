use Rattle.std.proofs.Common.{take}
use Rattle.render_tree.specs.Users.{is_at_or_below}
use Rattle.render_tree.specs.Ranges.{Clears}
use Rattle.render_tree.proofs.clearing.clear_inactive.Given as goal

-- nothing is left at and below the first tops
abbrev pub invariant-loop-i : goal.invariant-loop-i
invariant-loop-i l = Clears l.fn.tree l.tree (is_at_or_below l.fn.tree (take l.i l.fn.tree.inactive))
