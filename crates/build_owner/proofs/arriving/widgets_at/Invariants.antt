use Rattle.std.proofs.Common.{◌≡◌, Some, map, take}
use Rattle.widget_model.specs.View.{shared}
use Rattle.build_owner.specs.ArrivalView.{widget_at}
use Rattle.build_owner.proofs.arriving.widgets_at.Given as goal

abbrev pub invariant-loop-i : goal.invariant-loop-i
invariant-loop-i l = map Some (map shared l.widgets.items) ≡ map (widget_at l.t.tree) (take l.i l.handles)
