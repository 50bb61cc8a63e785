use Rattle.layout_form.proofs.Rounds.{box_rounds, sliver_round, measures_tell}
use Rattle.layout_form.proofs.laws.two_rounds_suffice.Goals as goal

pub returns-clause-boxes : goal.returns-clause-boxes
returns-clause-boxes c = box_rounds

pub returns-clause-slivers : goal.returns-clause-slivers
returns-clause-slivers c = sliver_round

pub returns-clause-measures : goal.returns-clause-measures
returns-clause-measures c = measures_tell
