use Rattle.std.proofs.Common.{◌≡◌, ◌+◌, drop}
use Rattle.std.specs.Prelude.{sum}
use Rattle.layout_form.specs.FlexRule.{factors_of}
use Rattle.kind_rules.proofs.sums.total_factor.Given as goal

abbrev pub invariant-loop-i : goal.invariant-loop-i
invariant-loop-i g l = l.total + sum (factors_of (drop l.i (g.F.Family.told l.family))) ≡ sum (factors_of (g.F.Family.told l.family))
