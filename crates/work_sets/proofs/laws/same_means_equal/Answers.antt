use Rattle.work_sets.proofs.Exact.{look_exact, widget_exact, told_exact}
use Rattle.work_sets.proofs.Sameness.{is_same-Decides}
use Rattle.work_sets.specs.Paint.{coded_frames}
use Rattle.work_sets.proofs.laws.same_means_equal.Goals as goal

pub returns-clause-looks : goal.returns-clause-looks
returns-clause-looks c = look_exact

pub returns-clause-widgets : goal.returns-clause-widgets
returns-clause-widgets c = widget_exact

pub returns-clause-frames : goal.returns-clause-frames
returns-clause-frames c = is_same-Decides coded_frames

pub returns-clause-told : goal.returns-clause-told
returns-clause-told c = told_exact
