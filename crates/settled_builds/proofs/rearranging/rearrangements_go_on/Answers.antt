use Rattle.settled_builds.proofs.Joining.{begins, left_so, goes_on}
use Rattle.settled_builds.proofs.rearranging.rearrangements_go_on.Goals as goal

pub returns-clause-begun : goal.returns-clause-begun
returns-clause-begun c = begins

pub returns-clause-taken : goal.returns-clause-taken
returns-clause-taken c = λ b marks wanted next root old tree p ws looks orders was ready first can drawn.
    goes_on (λ v w. (c.same_means_equal.ensures.widgets v w).0) b marks wanted next root tree p ws ready first can looks orders old was drawn

pub returns-clause-left : goal.returns-clause-left
returns-clause-left c = left_so
