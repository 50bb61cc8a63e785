use Rattle.std.proofs.Common.{◌-◌}
use Rattle.fx_handles.specs.Arena.{used_count}
use Rattle.node_tree.specs.Forest.{size}
use Rattle.node_tree.specs.Tree.{subtree_at}
use Rattle.build_owner.proofs.climbing.+climbing.Given as goal

-- each call goes one element up
abbrev pub decreases-provide_above : goal.decreases-provide_above
decreases-provide_above l = used_count l.t.now.tree.nodes - size (subtree_at l.t.now.tree l.h)
