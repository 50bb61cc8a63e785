use Rattle.counted_work.proofs.Worked.{worked}
use Rattle.counted_work.proofs.laws.worked_counts.Goals as goal

pub returns : goal.returns
returns c = worked
