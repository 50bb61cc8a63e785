-- What is left to drop is less and less.
use Rattle.std.proofs.Common.{◌≤◌}
use Rattle.widget_model.specs.Size.{count_in}
use Rattle.widget_model.proofs.+dropping.Given as goal

abbrev pub invariant-widgets::WidgetList::drop-loop-items : goal.invariant-widgets::WidgetList::drop-loop-items
invariant-widgets::WidgetList::drop-loop-items l = count_in l.self ≤ count_in l.fn.self

abbrev pub decreases-widgets::WidgetList::drop-loop-items : goal.decreases-widgets::WidgetList::drop-loop-items
decreases-widgets::WidgetList::drop-loop-items l = count_in l.self
