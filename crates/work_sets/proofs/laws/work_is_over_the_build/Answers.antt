use Rattle.work_sets.proofs.MadeBuilt.{made_built}
use Rattle.work_sets.proofs.laws.work_is_over_the_build.Goals as goal

pub returns : goal.returns
returns c = made_built
