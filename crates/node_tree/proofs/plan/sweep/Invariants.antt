use Rattle.node_tree.proofs.PlanLemmas.{Sweeping}
use Rattle.node_tree.proofs.plan.sweep.Given as goal

abbrev pub invariant-loop-i : goal.invariant-loop-i
invariant-loop-i g l = Sweeping l.keep l.i l.fn.nodes l.nodes
