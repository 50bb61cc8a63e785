use Rattle.counted_work.proofs.Inside.{root_due_inside, root_marks_inside}
use Rattle.counted_work.proofs.laws.marks_stay_inside.Goals as goal

pub returns-clause-due : goal.returns-clause-due
returns-clause-due c = root_due_inside

pub returns-clause-marks : goal.returns-clause-marks
returns-clause-marks c = λ judge also hs. root_marks_inside judge hs also
