use Rattle.node_tree.proofs.Walks.{climb}
use Rattle.tree_marks.proofs.ClimbSteps.{Rises}
use Rattle.tree_marks.proofs.climb.climb_of.Given as goal

abbrev pub invariant-loop-next : goal.invariant-loop-next
invariant-loop-next g l = Rises g.M.Marks.marking l.tree l.fn.h l.next l.climb

abbrev pub decreases-loop-next : goal.decreases-loop-next
decreases-loop-next g l = climb l.tree l.next
