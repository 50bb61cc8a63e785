-- The nodes so far don't have the number, and nothing has changed.
use Rattle.std.proofs.Common.{◌≡◌, None, take}
use Rattle.plain_tree.specs.At.{node_in}
use Rattle.plain_tree.specs.PlainNode.{nodes_of}
use Rattle.plain_tree.proofs.+changing.Given as goal

abbrev pub invariant-changing::change_in-loop-i : goal.invariant-changing::change_in-loop-i
invariant-changing::change_in-loop-i l =
    (l.nodes ≡ l.fn.nodes) × (l.change ≡ l.fn.change) × (node_in l.number (nodes_of (take l.i l.fn.nodes)) ≡ None)
