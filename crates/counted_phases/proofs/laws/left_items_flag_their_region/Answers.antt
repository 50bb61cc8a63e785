use Rattle.counted_phases.proofs.Items.{list_items}
use Rattle.counted_phases.proofs.laws.left_items_flag_their_region.Goals as goal

pub returns : goal.returns
returns c = λ before old ranged claimed hs. list_items before c.same_means_equal.ensures.looks old ranged claimed hs
