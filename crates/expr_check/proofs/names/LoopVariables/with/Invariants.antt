use Rattle.std.proofs.Common.{◌≡◌, take}
use Rattle.expr_check.proofs.names.LoopVariables.with.Given as goal

abbrev pub invariant-loop-i : goal.invariant-loop-i
invariant-loop-i l = l.vars ≡ take l.i l.self
