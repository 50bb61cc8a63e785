-- The nodes so far, with those that are left, are all.
use Rattle.std.proofs.Common.{◌≡◌, ◌++◌, drop, map}
use Rattle.plain_tree.specs.States.{preorder_in, seen}
use Rattle.plain_tree.specs.PlainNode.{nodes_of}
use Rattle.plain_tree.proofs.preorder.+preorder.Given as goal

abbrev pub invariant-push_nodes-loop-node : goal.invariant-push_nodes-loop-node
invariant-push_nodes-loop-node l =
    map seen l.nodes.items ++ preorder_in (nodes_of (drop l.node-index l.below)) ≡ map seen l.fn.nodes.items ++ preorder_in (nodes_of l.below)
