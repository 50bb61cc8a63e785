use Rattle.node_tree.specs.Forest.{size}
use Rattle.node_tree.specs.Tree.{subtree_at}
use Rattle.layout_rules.proofs.extents.+extent_of.Given as goal

abbrev pub decreases-extent_of : goal.decreases-extent_of
decreases-extent_of l = size (subtree_at l.r.now.tree l.h)
