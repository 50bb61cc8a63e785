use Rattle.counted_phases.proofs.Left.{list_reach}
use Rattle.counted_phases.proofs.laws.bereft_items_reach_their_list.Goals as goal

pub returns : goal.returns
returns c = λ before old claimed hs. list_reach before c.same_means_equal.ensures.looks old claimed hs
