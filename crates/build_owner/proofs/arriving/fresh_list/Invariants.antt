use Rattle.std.proofs.Common.{◌≡◌, ◌++◌, map, drop}
use Rattle.widget_model.specs.View.{shared}
use Rattle.build_owner.specs.ArrivalView.{coming, coming_anew}
use Rattle.build_owner.proofs.arriving.fresh_list.Given as goal

-- what was made, and then what is left
abbrev pub invariant-loop-i : goal.invariant-loop-i
invariant-loop-i l = map coming l.arrivals.items ++ coming_anew l.i (drop l.i (map shared l.widgets)) ≡ coming_anew 0 (map shared l.widgets)
