use Rattle.work_sets.proofs.Quiet.{unchanged_nothing}
use Rattle.work_sets.proofs.laws.unchanged_trees_keep_their_layout.Goals as goal

pub returns : goal.returns
returns c = unchanged_nothing
