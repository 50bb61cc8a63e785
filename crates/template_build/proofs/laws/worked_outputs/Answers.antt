use Rattle.template_build.proofs.WorkedLemmas.{worked}
use Rattle.template_build.proofs.laws.worked_outputs.Goals as goal

pub returns : goal.returns
returns c = worked
