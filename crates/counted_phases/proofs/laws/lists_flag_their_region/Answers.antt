use Rattle.counted_phases.proofs.Lists.{root_items}
use Rattle.counted_phases.proofs.laws.lists_flag_their_region.Goals as goal

pub returns : goal.returns
returns c = λ before old ranged claimed hs. root_items before c.same_means_equal.ensures.looks old ranged claimed hs
