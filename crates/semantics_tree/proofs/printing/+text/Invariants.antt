-- What is printed so far, with what is left to print, is all; and how many nodes a call is given.
use Rattle.std.proofs.Common.{◌≡◌, ◌+◌, ◌*◌, ◌++◌, drop, map}
use Rattle.screen_form.specs.Sem.{sems_of, count_of, total}
use Rattle.semantics_tree.specs.View.{sem_of}
use Rattle.screen_form.specs.SemanticsText.{sems_text}
use Rattle.semantics_tree.proofs.printing.+text.Given as goal

abbrev pub decreases-push_node : goal.decreases-push_node
decreases-push_node l = 2 * count_of (sem_of l.node.now)

abbrev pub decreases-push_nodes : goal.decreases-push_nodes
decreases-push_nodes l = 2 * total (map sem_of l.nodes.now) + 1

abbrev pub invariant-push_nodes-loop-node : goal.invariant-push_nodes-loop-node
invariant-push_nodes-loop-node l =
    l.text.items ++ sems_text l.indent (sems_of (map sem_of (drop l.node-index l.nodes))) ≡ l.fn.text.items ++ sems_text l.indent (sems_of (map sem_of l.nodes))
