use Rattle.counted_phases.proofs.Whole.{whole_root_inside}
use Rattle.counted_phases.proofs.laws.marks_stay_where_bounds_do.Goals as goal

pub returns : goal.returns
returns c = whole_root_inside
