use Rattle.work_sets.proofs.Wholes.{region_within, groups_within, few}
use Rattle.work_sets.specs.Paint.{groups_of}
use Rattle.work_sets.specs.Region.{region_of}
use Rattle.work_sets.proofs.laws.regions_keep_to_the_tree.Goals as goal

pub returns-clause-layout : goal.returns-clause-layout
returns-clause-layout c = region_within

pub returns-clause-layouts : goal.returns-clause-layouts
returns-clause-layouts c = λ judge root. few (region_of judge root) root (region_within judge root)

pub returns-clause-paint : goal.returns-clause-paint
returns-clause-paint c = groups_within

pub returns-clause-paints : goal.returns-clause-paints
returns-clause-paints c = λ asks root. few (groups_of asks root) root (groups_within asks root)
