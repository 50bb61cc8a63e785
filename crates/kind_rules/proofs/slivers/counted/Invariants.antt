use Rattle.std.proofs.Common.{◌≡◌, ◌++◌, drop}
use Rattle.layout_form.specs.SliverRule.{counted}
use Rattle.kind_rules.proofs.slivers.counted.Given as goal

abbrev pub invariant-loop-i : goal.invariant-loop-i
invariant-loop-i l = l.indices.items ++ counted l.i (drop l.i l.told) ≡ counted 0 l.told
