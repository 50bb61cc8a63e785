use Rattle.settled_builds.proofs.Stopped.{first_stops, first_alone}
use Rattle.settled_builds.proofs.steps.first_components_stop_builds.Goals as goal

pub returns-clause-whole : goal.returns-clause-whole
returns-clause-whole c = λ b screen marks wanted next root tree p fault ready first stop.
    first_stops (λ v w. (c.same_means_equal.ensures.widgets v w).0) b marks wanted next root tree p ready first screen fault stop

pub returns-clause-builds : goal.returns-clause-builds
returns-clause-builds c = λ b screen marks wanted next root tree p fault ready first stop.
    first_alone (λ v w. (c.same_means_equal.ensures.widgets v w).0) b marks wanted next root tree p ready first screen fault stop c.what_is_built_is_due.ensures.due c.quiet_frames_take_no_work.ensures.due
