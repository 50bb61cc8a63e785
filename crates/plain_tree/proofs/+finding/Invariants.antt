-- The nodes so far don't have the number.
use Rattle.std.proofs.Common.{◌≡◌, drop}
use Rattle.plain_tree.specs.At.{node_in}
use Rattle.plain_tree.specs.PlainNode.{nodes_of}
use Rattle.plain_tree.proofs.+finding.Given as goal

abbrev pub invariant-finding::find_in-loop-node : goal.invariant-finding::find_in-loop-node
invariant-finding::find_in-loop-node l = node_in l.number (nodes_of l.nodes) ≡ node_in l.number (nodes_of (drop l.node-index l.nodes))
