use Rattle.kind_rules.proofs.Chains.{measured}
use Rattle.kind_rules.proofs.laws.slivers_are_measured_by_their_boxes.Goals as goal

pub returns : goal.returns
returns c = measured c.scroll_extents_see_nothing.ensures
