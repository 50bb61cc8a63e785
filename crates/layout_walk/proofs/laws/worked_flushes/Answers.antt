use Rattle.layout_walk.proofs.Worked.{works}
use Rattle.layout_walk.proofs.laws.worked_flushes.Goals as goal

pub returns : goal.returns
returns c = works
