use Rattle.settled_builds.proofs.WorkedSteps.{steps_work}
use Rattle.settled_builds.proofs.steps.worked_steps.Goals as goal

pub returns : goal.returns
returns c = steps_work
