use Rattle.layout_walk.proofs.Running.{ran, asked_full}
use Rattle.layout_walk.proofs.laws.a_rule_lays_out.Goals as goal

pub returns-clause-asks : goal.returns-clause-asks
returns-clause-asks c = asked_full

pub returns-clause-lays : goal.returns-clause-lays
returns-clause-lays c = ran
