use Rattle.work_sets.proofs.Scripts.{works}
use Rattle.work_sets.proofs.laws.worked_work_sets.Goals as goal

pub returns : goal.returns
returns c = works
