use Rattle.node_tree.proofs.TreeLemmas.{root_holds}
use Rattle.node_tree.proofs.Tree.root.Goals as goal

pub returns-clause-holds : goal.returns-clause-holds
returns-clause-holds g c = rw (← c.self.view_is) (root_holds _ c.self.invariant.0 c.self.invariant.1)
