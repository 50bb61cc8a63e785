use Rattle.layout_walk.proofs.Free.{again_free, measured_bound}
use Rattle.layout_walk.proofs.laws.no_rule_runs_twice.Goals as goal

pub returns-clause-again : goal.returns-clause-again
returns-clause-again c = again_free

pub returns-clause-measured : goal.returns-clause-measured
returns-clause-measured c = measured_bound
