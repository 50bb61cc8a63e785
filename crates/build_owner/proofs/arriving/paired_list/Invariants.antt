use Rattle.std.proofs.Common.{◌≡◌, ◌++◌, map, drop}
use Rattle.widget_model.specs.View.{shared}
use Rattle.build_owner.specs.ArrivalView.{coming, coming_from}
use Rattle.build_owner.proofs.arriving.paired_list.Given as goal

-- what was made, and then what is left
abbrev pub invariant-loop-i : goal.invariant-loop-i
invariant-loop-i l = map coming l.arrivals.items ++ coming_from l.i (drop l.i l.handles) (drop l.i (map shared l.widgets)) ≡ coming_from 0 l.handles (map shared l.widgets)
