use Rattle.std.proofs.Common.{◌≡◌, take}
use Rattle.expr_check.proofs.names.Declared.to_list.Given as goal

abbrev pub invariant-loop-i : goal.invariant-loop-i
invariant-loop-i l = l.names.items ≡ take l.i l.self
