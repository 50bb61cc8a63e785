use Rattle.settled_builds.proofs.Worked.{works}
use Rattle.settled_builds.proofs.laws.worked_settled_trees.Goals as goal

pub returns : goal.returns
returns c = works
