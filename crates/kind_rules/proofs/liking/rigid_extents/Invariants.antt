use Rattle.std.proofs.Common.{◌≡◌, ◌++◌, drop}
use Rattle.layout_form.specs.FlexRule.{is_rigid}
use Rattle.layout_form.specs.Intrinsic.{extents_where}
use Rattle.kind_rules.proofs.liking.rigid_extents.Given as goal

abbrev pub invariant-loop-i : goal.invariant-loop-i
invariant-loop-i l = l.rigid.items ++ extents_where is_rigid (drop l.i l.told) (drop l.i l.extents) ≡ extents_where is_rigid l.told l.extents
