use Rattle.std.proofs.Common.{◌≡◌}
use Rattle.fx_handles.specs.Arena.{used_count}
use Rattle.node_tree.specs.Forest.{size}
use Rattle.node_tree.specs.Tree.{subtree_at}
use Rattle.node_tree.proofs.Removals.{Removing}
use Rattle.node_tree.proofs.Tree.remove.Given as goal

abbrev pub invariant-loop-h : goal.invariant-loop-h
invariant-loop-h g l = Removing l.fn.self l.self l.h × (l.before ≡ used_count l.fn.self.nodes)

abbrev pub decreases-loop-h : goal.decreases-loop-h
decreases-loop-h g l = size (subtree_at l.self l.h)
