use Rattle.std.proofs.Common.{◌≡◌, ◌++◌, drop}
use Rattle.layout_form.specs.StackRule.{is_free}
use Rattle.layout_form.specs.Intrinsic.{extents_where}
use Rattle.kind_rules.proofs.liking.free_extents.Given as goal

abbrev pub invariant-loop-i : goal.invariant-loop-i
invariant-loop-i l = l.free.items ++ extents_where is_free (drop l.i l.told) (drop l.i l.extents) ≡ extents_where is_free l.told l.extents
