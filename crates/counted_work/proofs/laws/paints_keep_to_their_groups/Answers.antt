use Rattle.counted_work.proofs.Asking.{root_painted_inside, root_marks_asked}
use Rattle.counted_work.proofs.laws.paints_keep_to_their_groups.Goals as goal

pub returns-clause-count : goal.returns-clause-count
returns-clause-count c = root_painted_inside

pub returns-clause-marks : goal.returns-clause-marks
returns-clause-marks c = λ asks also hs. root_marks_asked asks hs also
