use Rattle.counted_phases.proofs.Unreached.{tree_stood, all_differing, outer_differing}
use Rattle.counted_phases.proofs.laws.differing_nodes_are_reached.Goals as goal

pub returns-clause-first : goal.returns-clause-first
returns-clause-first c = λ before old claimed hs p last f rs was differ.
    let looks = c.same_means_equal.ensures.looks in outer_differing before looks old claimed hs (tree_stood before looks last was differ) p f rs

pub returns-clause-second : goal.returns-clause-second
returns-clause-second c = λ before hs p last f was differ.
    let looks = c.same_means_equal.ensures.looks in all_differing before looks (tree_stood before looks last was differ) hs p f
