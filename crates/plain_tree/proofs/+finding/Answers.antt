use Rattle.plain_tree.proofs.Numbered.{found_here, missed_here}
use Rattle.plain_tree.proofs.+finding.Goals as goal

pub finding::find_in-returns-in-Some-clause-found : goal.finding::find_in-returns-in-Some-clause-found
finding::find_in-returns-in-Some-clause-found t c =
    found_here c.args.number c.args.nodes.now c.loop-node.node-index c.node-item.result c.loop-node-test.true c.node-item.is
    c.in-Some.found.now _ c.loop-node.invariant c.in-Some.ensures.found

pub finding::find_in-loop-node-preserved : goal.finding::find_in-loop-node-preserved
finding::find_in-loop-node-preserved t c =
    missed_here c.args.number c.args.nodes.now c.loop-node.node-index c.node-item.result c.loop-node-test.true c.node-item.is
    _ c.loop-node.invariant c.in-None.ensures.missing
