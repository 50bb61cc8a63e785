-- The nodes so far don't have the id; and how many nodes a call is given.
use Rattle.std.proofs.Common.{◌≡◌, ◌+◌, ◌*◌, drop, map}
use Rattle.screen_form.specs.Acts.{sem_in}
use Rattle.screen_form.specs.Sem.{sems_of, count_of, total}
use Rattle.semantics_tree.specs.View.{sem_of}
use Rattle.semantics_tree.proofs.+finding.Given as goal

abbrev pub decreases-nodes::SemNode::find : goal.decreases-nodes::SemNode::find
decreases-nodes::SemNode::find l = 2 * count_of (sem_of l.self.now)

abbrev pub decreases-acting::find_in : goal.decreases-acting::find_in
decreases-acting::find_in l = 2 * total (map sem_of l.nodes.now) + 1

abbrev pub invariant-acting::find_in-loop-node : goal.invariant-acting::find_in-loop-node
invariant-acting::find_in-loop-node l =
    sem_in l.id (sems_of (map sem_of l.nodes)) ≡ sem_in l.id (sems_of (map sem_of (drop l.node-index l.nodes)))
