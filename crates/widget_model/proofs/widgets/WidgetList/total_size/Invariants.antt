-- The sum of the sizes so far.
use Rattle.std.proofs.Common.{◌≡◌, ◌-◌, ◌^◌, min, map, take}
use Rattle.widget_model.specs.Size.{count_in}
use Rattle.widget_model.specs.View.{shared}
use Rattle.widget_model.proofs.widgets.WidgetList.total_size.Given as goal

abbrev pub invariant-loop-widget : goal.invariant-loop-widget
invariant-loop-widget l = l.total ≡ min (count_in (map shared (take l.widget-index l.widget-items))) (2 ^ 32 - 1)
