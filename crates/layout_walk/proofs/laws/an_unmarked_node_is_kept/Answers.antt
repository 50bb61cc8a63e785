use Rattle.layout_walk.proofs.Keeping.{still, kept, kept_bounds}
use Rattle.layout_walk.proofs.laws.an_unmarked_node_is_kept.Goals as goal

pub returns-clause-visits : goal.returns-clause-visits
returns-clause-visits c = kept

pub returns-clause-nothing : goal.returns-clause-nothing
returns-clause-nothing c = still

pub returns-clause-bounds : goal.returns-clause-bounds
returns-clause-bounds c = kept_bounds
