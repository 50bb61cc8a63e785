use Rattle.std.proofs.Common.{◌≡◌, drop}
use Rattle.std.specs.List.{list_any}
use Rattle.layout_form.specs.FlexRule.{is_flexible}
use Rattle.kind_rules.proofs.line.is_any_flexible.Given as goal

abbrev pub invariant-loop-i : goal.invariant-loop-i
invariant-loop-i g l = list_any is_flexible (drop l.i (g.F.Family.told l.family)) ≡ list_any is_flexible (g.F.Family.told l.family)
