use Rattle.counted_phases.proofs.Worked.{worked}
use Rattle.counted_phases.proofs.laws.worked_phases.Goals as goal

pub returns : goal.returns
returns c = worked
