use Rattle.node_tree.proofs.TreeLemmas.{inactive_holds}
use Rattle.node_tree.proofs.Tree.inactive.Goals as goal

pub returns-clause-holds : goal.returns-clause-holds
returns-clause-holds g c = rw (← c.self.view_is) (λ h among. inactive_holds _ c.self.invariant.0 h c.self.invariant.1 (rw c.as_slice.ensures.value at among))
