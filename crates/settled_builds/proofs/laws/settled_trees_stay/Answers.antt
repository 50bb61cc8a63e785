use Rattle.settled_builds.proofs.Counting.{builds_nothing}
use Rattle.settled_builds.proofs.Staying.{tree_stays}
use Rattle.settled_builds.proofs.laws.settled_trees_stay.Goals as goal

pub returns-clause-tree : goal.returns-clause-tree
returns-clause-tree c = tree_stays

pub returns-clause-builds : goal.returns-clause-builds
returns-clause-builds c = builds_nothing c.what_is_built_is_due.ensures.due c.quiet_frames_take_no_work.ensures.due c.builds_enter_their_trees.ensures.counted
