use Rattle.settled_builds.proofs.Leading.{left_leads}
use Rattle.settled_builds.proofs.steps.left_steps_lead.Goals as goal

pub returns : goal.returns
returns c = λ b marks wanted next root tree p ready first. left_leads (λ v w. (c.same_means_equal.ensures.widgets v w).0) b marks wanted next root tree p ready first
