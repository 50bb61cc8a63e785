use Rattle.settled_builds.proofs.Readied.{retaken_ready}
use Rattle.settled_builds.proofs.steps.retaken_trees_are_ready.Goals as goal

pub returns : goal.returns
returns c = λ b marks wanted next root tree p ws ready first can. retaken_ready (λ v w. (c.same_means_equal.ensures.widgets v w).0) b marks next wanted ws p root tree ready first can
