use Rattle.tree_marks.proofs.MarkedNodes.{MarkedBefore}
use Rattle.tree_marks.proofs.marks.are_marked.Given as goal

abbrev pub invariant-loop-index : goal.invariant-loop-index
invariant-loop-index g l = MarkedBefore g.M.Marks.marking l.tree l.index
