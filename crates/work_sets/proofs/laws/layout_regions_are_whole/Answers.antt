use Rattle.work_sets.proofs.Wholes.{whole_region}
use Rattle.work_sets.proofs.laws.layout_regions_are_whole.Goals as goal

pub returns : goal.returns
returns c = whole_region
