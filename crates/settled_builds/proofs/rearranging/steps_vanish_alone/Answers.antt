use Rattle.build_form.specs.Entering.{depth_limit}
use Rattle.settled_builds.proofs.Vanishing.{retaken_alone, regiven_alone}
use Rattle.settled_builds.proofs.rearranging.steps_vanish_alone.Goals as goal

pub returns-clause-retaken : goal.returns-clause-retaken
returns-clause-retaken c = λ b marks wanted next root tree p ws ready first can alone. retaken_alone wanted ws p can.can depth_limit b.defaults tree first.at ready.within alone

pub returns-clause-regiven : goal.returns-clause-regiven
returns-clause-regiven c = λ b marks wanted next root tree p w name ready first can alone. regiven_alone b wanted w name p can depth_limit b.defaults tree first.at ready.within alone
