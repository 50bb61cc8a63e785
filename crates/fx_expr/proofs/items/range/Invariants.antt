-- The numbers so far are those below i.
use Rattle.std.proofs.Common.{◌≡◌, map, pos}
use Rattle.std.specs.List.{range_with_len}
use Rattle.fx_expr.proofs.items.range.Given as goal

abbrev pub invariant-loop-i : goal.invariant-loop-i
invariant-loop-i l = l.numbers.items ≡ map pos (range_with_len 0 l.i)
