use Rattle.std.proofs.Common.{◌≡◌, map, take}
use Rattle.widget_model.specs.View.{shared}
use Rattle.build_owner.proofs.arriving.copies.Given as goal

abbrev pub invariant-loop-widget : goal.invariant-loop-widget
invariant-loop-widget l = map shared l.copies.items ≡ map shared (take l.widget-index l.widgets)
