use Rattle.settled_builds.proofs.Leading.{full_alike, entered_alike}
use Rattle.settled_builds.proofs.steps.builds_go_on_alike.Goals as goal

pub returns-clause-full : goal.returns-clause-full
returns-clause-full c = λ b screen marks wanted next root tree p ws ready first can.
    full_alike (λ v w. (c.same_means_equal.ensures.widgets v w).0) b marks wanted next root tree p ready first ws can screen

pub returns-clause-entered : goal.returns-clause-entered
returns-clause-entered c = λ b screen marks wanted next root tree p ws ready first can.
    entered_alike (λ v w. (c.same_means_equal.ensures.widgets v w).0) b marks wanted next root tree p ready first ws can screen
