use Rattle.work_sets.proofs.ForLayout.{boxes_read, slivers_read, extents_read}
use Rattle.work_sets.proofs.laws.layouts_read_what_counts.Goals as goal

pub returns-clause-boxes : goal.returns-clause-boxes
returns-clause-boxes c = boxes_read

pub returns-clause-slivers : goal.returns-clause-slivers
returns-clause-slivers c = slivers_read

pub returns-clause-extents : goal.returns-clause-extents
returns-clause-extents c = extents_read
