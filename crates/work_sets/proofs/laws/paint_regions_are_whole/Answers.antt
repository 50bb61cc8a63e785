use Rattle.work_sets.proofs.Wholes.{groups_whole}
use Rattle.work_sets.specs.Paint.{group_asks}
use Rattle.work_roles.specs.Place.{at_root}
use Rattle.work_sets.proofs.laws.paint_regions_are_whole.Goals as goal

pub returns : goal.returns
returns c = λ asks root. groups_whole asks (group_asks asks at_root root) at_root root
