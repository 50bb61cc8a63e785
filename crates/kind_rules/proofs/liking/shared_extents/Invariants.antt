use Rattle.std.proofs.Common.{◌≡◌, ◌++◌, drop}
use Rattle.layout_form.specs.Intrinsic.{shared_where}
use Rattle.kind_rules.proofs.liking.shared_extents.Given as goal

abbrev pub invariant-loop-i : goal.invariant-loop-i
invariant-loop-i l = l.shared.items ++ shared_where l.total (drop l.i l.told) (drop l.i l.extents) ≡ shared_where l.total l.told l.extents
