use Rattle.work_sets.proofs.Quiet.{quiet_layout, quiet_paint, idle_nothing}
use Rattle.work_sets.proofs.QuietBuild.{quiet_build}
use Rattle.work_sets.proofs.laws.quiet_frames_take_no_work.Goals as goal

pub returns-clause-due : goal.returns-clause-due
returns-clause-due c = quiet_build

pub returns-clause-layout : goal.returns-clause-layout
returns-clause-layout c = quiet_layout

pub returns-clause-paint : goal.returns-clause-paint
returns-clause-paint c = quiet_paint

pub returns-clause-flags : goal.returns-clause-flags
returns-clause-flags c = idle_nothing
