use Rattle.build_form.specs.Entering.{depth_limit}
use Rattle.settled_builds.proofs.Marked.{marked_is_stale}
use Rattle.settled_builds.proofs.Spots.{spot_is_there}
use Rattle.settled_builds.proofs.in_place.marked_trees_are_stale.Goals as goal

pub returns-clause-spot : goal.returns-clause-spot
returns-clause-spot c = marked_is_stale

pub returns-clause-node : goal.returns-clause-node
returns-clause-node c = λ b marks wanted next root tree p h. spot_is_there wanted p depth_limit b.defaults 0 0 tree h.at
