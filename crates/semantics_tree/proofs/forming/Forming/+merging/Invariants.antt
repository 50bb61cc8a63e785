-- What is heard so far, with what is left to hear, is the whole; and how many nodes a call is given.
use Rattle.std.proofs.Common.{◌≡◌, ◌+◌, ◌*◌, drop, map, true}
use Rattle.screen_form.specs.Sem.{count_of, total}
use Rattle.semantics_tree.specs.View.{sem_of}
use Rattle.semantics_tree.specs.Forming.{heard, after, side_by_side}
use Rattle.semantics_tree.proofs.forming.Forming.+merging.Given as goal

abbrev pub decreases-merge : goal.decreases-merge
decreases-merge l = 2 * count_of (sem_of l.node.now)

abbrev pub decreases-merge_all : goal.decreases-merge_all
decreases-merge_all l = 2 * total (map sem_of l.nodes.now) + 1

abbrev pub invariant-merge_all-loop-node : goal.invariant-merge_all-loop-node
invariant-merge_all-loop-node l =
    (after (heard l.self) (side_by_side (map sem_of (drop l.node-index l.nodes))) ≡ after (heard l.fn.self) (side_by_side (map sem_of l.nodes)))
    × (l.self.merging ≡ true)
