use Rattle.settled_builds.proofs.Settling.{settled_for}
use Rattle.settled_builds.proofs.laws.builds_leave_settled_trees.Goals as goal

pub returns : goal.returns
returns c = λ b screen old next after root tree whole none.
    settled_for b screen old next after root tree whole none (λ mid s begun waits. c.waiting_lists_are_in_the_tree.ensures.trees b screen old next after root mid tree s begun waits whole none)
    (c.builds_leave_fresh_trees.ensures.whole b screen old next after root tree whole) (c.trees_keep_to_the_limit.ensures.whole b screen old next after root tree whole)
