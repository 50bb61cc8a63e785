use Rattle.counted_phases.proofs.Inside.{outer_layouts_inside}
use Rattle.counted_phases.proofs.Phased.{first_inside}
use Rattle.counted_phases.proofs.laws.first_phases_lay_out_their_region.Goals as goal

pub returns-clause-flags : goal.returns-clause-flags
returns-clause-flags c = first_inside

pub returns-clause-layouts : goal.returns-clause-layouts
returns-clause-layouts c = outer_layouts_inside
