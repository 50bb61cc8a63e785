-- The sets before i are the same in both.
use Rattle.std.proofs.Common.{◌≡◌, map, take}
use Rattle.fx_expr.specs.View.{set_of}
use Rattle.fx_expr.proofs.sameness.same_sets.Given as goal

abbrev pub invariant-loop-i : goal.invariant-loop-i
invariant-loop-i l = take l.i (map set_of l.sets) ≡ take l.i (map set_of l.others)
