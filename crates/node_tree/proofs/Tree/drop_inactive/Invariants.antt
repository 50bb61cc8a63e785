use Rattle.std.proofs.Common.{◌≡◌}
use Rattle.fx_handles.specs.Arena.{used_count}
use Rattle.node_tree.proofs.Removals.{Dropping}
use Rattle.node_tree.proofs.Tree.drop_inactive.Given as goal

abbrev pub invariant-loop-top : goal.invariant-loop-top
invariant-loop-top g l = Dropping l.fn.self l.self × (l.before ≡ used_count l.fn.self.nodes)

abbrev pub decreases-loop-top : goal.decreases-loop-top
decreases-loop-top g l = used_count l.self.nodes
