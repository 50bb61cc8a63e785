use Rattle.counted_phases.proofs.Unreached.{unreached}
use Rattle.counted_phases.proofs.laws.unreached_nodes_stay.Goals as goal

pub returns : goal.returns
returns c = λ before. unreached before c.same_means_equal.ensures.looks
