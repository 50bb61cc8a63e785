use Rattle.build_walk.proofs.Worked.{works}
use Rattle.build_walk.proofs.laws.worked_rebuilds.Goals as goal

pub returns : goal.returns
returns c = works
