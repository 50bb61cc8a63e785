use Rattle.settled_builds.proofs.WorkedRearranged.{rearranging_works}
use Rattle.settled_builds.proofs.rearranging.worked_rearrangements.Goals as goal

pub returns : goal.returns
returns c = rearranging_works
