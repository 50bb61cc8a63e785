use Rattle.build_walk.proofs.Serving.{in_one_pass, counted_in_one_pass}
use Rattle.build_walk.proofs.laws.lists_are_served_in_order.Goals as goal

pub returns-clause-nodes : goal.returns-clause-nodes
returns-clause-nodes c = in_one_pass

pub returns-clause-builds : goal.returns-clause-builds
returns-clause-builds c = counted_in_one_pass
