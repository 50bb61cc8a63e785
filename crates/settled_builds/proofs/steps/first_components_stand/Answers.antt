use Rattle.build_form.specs.Entering.{depth_limit}
use Rattle.settled_builds.proofs.Leading.{first_stands, is_component}
use Rattle.settled_builds.proofs.Spots.{spot_is_there}
use Rattle.settled_builds.proofs.steps.first_components_stand.Goals as goal

pub returns-clause-spot : goal.returns-clause-spot
returns-clause-spot c = first_stands

pub returns-clause-node : goal.returns-clause-node
returns-clause-node c = λ b marks wanted tree p first. spot_is_there wanted p depth_limit b.defaults 0 0 tree first.at

pub returns-clause-component : goal.returns-clause-component
returns-clause-component c = is_component
