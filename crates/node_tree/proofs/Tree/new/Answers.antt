use Rattle.node_tree.specs.Forest.Forest.{none}
use Rattle.node_tree.proofs.TreeLemmas.{empty_is}
use Rattle.node_tree.proofs.Tree.new.Goals as goal

pub invariant_of-result : goal.invariant_of-result
invariant_of-result g c = (none, empty_is _ c.new.ensures c.new-2.ensures.items)
