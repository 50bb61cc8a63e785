use Rattle.settled_builds.proofs.Lines.{settled_is_ready, ready_is_settled}
use Rattle.settled_builds.proofs.steps.ready_trees_settle.Goals as goal

pub returns-clause-ready : goal.returns-clause-ready
returns-clause-ready c = settled_is_ready

pub returns-clause-settled : goal.returns-clause-settled
returns-clause-settled c = ready_is_settled
