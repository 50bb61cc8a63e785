use Rattle.node_tree.specs.Forest.{In, size}
use Rattle.node_tree.specs.Tree.{IsNode, IsTree, subtree_at}
use Rattle.node_tree.proofs.Tree.leaf_below.Given as goal

-- the place that the loop has come to is a node below h
abbrev pub invariant-loop-child : goal.invariant-loop-child
invariant-loop-child g l = IsTree l.self × IsNode l.self l.at × In l.at (subtree_at l.self l.fn.h)

abbrev pub decreases-loop-child : goal.decreases-loop-child
decreases-loop-child g l = size (subtree_at l.self l.at)
