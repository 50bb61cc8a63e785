use Rattle.settled_builds.proofs.Leading.{step_leads}
use Rattle.settled_builds.proofs.steps.steps_lead.Goals as goal

pub returns : goal.returns
returns c = λ b marks wanted next root tree p ws ready first can. step_leads (λ v w. (c.same_means_equal.ensures.widgets v w).0) b marks wanted next root tree p ready first ws can
