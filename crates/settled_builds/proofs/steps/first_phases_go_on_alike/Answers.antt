use Rattle.settled_builds.proofs.FirstPhase.{made_alike}
use Rattle.settled_builds.proofs.steps.first_phases_go_on_alike.Goals as goal

pub returns : goal.returns
returns c = λ b screen marks wanted next root tree p w name ready begins reads can.
    made_alike (λ v u. (c.same_means_equal.ensures.widgets v u).0) b marks wanted next root tree p ready begins reads w name can screen
