use Rattle.settled_builds.proofs.Counting.{builds_nothing}
use Rattle.settled_builds.proofs.Following.{follow, tree_then, builds_then}
use Rattle.settled_builds.proofs.steps.steps_follow_on.Goals as goal

pub returns-clause-follow : goal.returns-clause-follow
returns-clause-follow c = λ b next root tree new last marks left rest builds more h g. follow b next root tree new marks left builds h last rest more g

pub returns-clause-end : goal.returns-clause-end
returns-clause-end c = λ b screen next root tree new marks left builds h settled. tree_then b next root tree new marks left builds h screen settled

pub returns-clause-builds : goal.returns-clause-builds
returns-clause-builds c = λ b screen next root tree new marks left builds h settled differ.
    builds_then b next root tree new marks left builds h screen
    (builds_nothing c.what_is_built_is_due.ensures.due c.quiet_frames_take_no_work.ensures.due c.builds_enter_their_trees.ensures.counted b screen left next root new settled differ)
