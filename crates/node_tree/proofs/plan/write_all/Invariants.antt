use Rattle.std.proofs.Common.{vec_len}
use Rattle.node_tree.proofs.PlanLemmas.{Writing}
use Rattle.node_tree.proofs.plan.write_all.Given as goal

abbrev pub invariant-loop-entry : goal.invariant-loop-entry
invariant-loop-entry g l = Writing g.U.Update.updated l.fn.plan.items l.plan.items l.fn.nodes l.nodes

abbrev pub decreases-loop-entry : goal.decreases-loop-entry
decreases-loop-entry g l = vec_len l.plan
