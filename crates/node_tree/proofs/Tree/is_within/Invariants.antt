use Rattle.node_tree.proofs.Walks.{Climbs, climb}
use Rattle.node_tree.proofs.Tree.is_within.Given as goal

abbrev pub invariant-loop-next : goal.invariant-loop-next
invariant-loop-next g l = Climbs l.self l.fn.h l.top l.next

abbrev pub decreases-loop-next : goal.decreases-loop-next
decreases-loop-next g l = climb l.self l.next
