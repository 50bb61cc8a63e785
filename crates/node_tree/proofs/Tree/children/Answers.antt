use Rattle.node_tree.proofs.TreeLemmas.{child_of}
use Rattle.node_tree.proofs.Tree.children.Goals as goal

pub returns-clause-holds : goal.returns-clause-holds
returns-clause-holds g c = rw (← c.self.view_is) (λ k among. (child_of _ c.self.invariant.0 c.args.h k c.self.invariant.1 (rw c.children_in.ensures at among)).holds)

pub returns-clause-smaller : goal.returns-clause-smaller
returns-clause-smaller g c = rw (← c.self.view_is) (λ k among. (child_of _ c.self.invariant.0 c.args.h k c.self.invariant.1 (rw c.children_in.ensures at among)).smaller)

pub returns-clause-parent : goal.returns-clause-parent
returns-clause-parent g c = rw (← c.self.view_is) (λ k among. (child_of _ c.self.invariant.0 c.args.h k c.self.invariant.1 (rw c.children_in.ensures at among)).parent)
