-- How many widgets a call is given; and what is left of a list has no lazy list exactly where the whole has none.
use Rattle.std.proofs.Common.{◌↔◌, ◌+◌, ◌*◌, map, drop}
use Rattle.widget_model.specs.Size.{count_of, count_in}
use Rattle.widget_model.specs.View.{plain_of, slots_in, shared}
use Rattle.first_builds.proofs.Listless.{WidgetsAreListless}
use Rattle.first_builds.proofs.listing.+widgets.Given as goal

abbrev pub decreases-is_listless : goal.decreases-is_listless
decreases-is_listless l = 3 * count_of (plain_of l.widget.now)

abbrev pub decreases-is_listless_kind : goal.decreases-is_listless_kind
decreases-is_listless_kind l = 3 * count_in (slots_in l.kind.now) + 2

abbrev pub decreases-are_listless : goal.decreases-are_listless
decreases-are_listless l = 3 * count_in (map shared l.widgets.now) + 1

abbrev pub invariant-are_listless-loop-widget : goal.invariant-are_listless-loop-widget
invariant-are_listless-loop-widget l = WidgetsAreListless (drop l.widget-index l.widgets) ↔ WidgetsAreListless l.widgets
