-- What is added so far, with what is left to add, is the whole; and how many nodes a call is given.
use Rattle.std.proofs.Common.{◌≡◌, ◌++◌, drop}
use Rattle.plain_tree.specs.PlainNode.{nodes_of}
use Rattle.plain_tree.specs.Projection.{projected_all}
use Rattle.plain_tree.proofs.projecting.+projection.Given as goal

abbrev pub invariant-project_nodes-loop-node : goal.invariant-project_nodes-loop-node
invariant-project_nodes-loop-node l =
    l.renders.items ++ projected_all l.above l.told (nodes_of (drop l.node-index l.nodes))
    ≡ l.fn.renders.items ++ projected_all l.above l.told (nodes_of l.nodes)
