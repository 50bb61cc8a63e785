use Rattle.std.proofs.Common.{arith, ap}
use Rattle.screen_form.specs.Sem.{total}
use Rattle.semantics_tree.specs.View.{sem_of}
use Rattle.semantics_tree.proofs.Weights.{node_heavier, item_lighter}
use Rattle.semantics_tree.proofs.Finding.{found_here, missed}
use Rattle.semantics_tree.proofs.+finding.Goals as goal

pub nodes::SemNode::find-find_in-requires : goal.nodes::SemNode::find-find_in-requires
nodes::SemNode::find-find_in-requires t c =
    let heavier = node_heavier c.args.self.now in
    let same = ap total c.get.ensures in
    (omega (arith, heavier, same, c.decreases), tt)

pub acting::find_in-find-requires : goal.acting::find_in-find-requires
acting::find_in-find-requires t c =
    let lighter = item_lighter c.args.nodes.now c.loop-node.node-index c.node-item.result c.loop-node-test.true c.node-item.is in
    (omega (arith, lighter, c.decreases), tt)

pub acting::find_in-returns-in-Some-clause-found : goal.acting::find_in-returns-in-Some-clause-found
acting::find_in-returns-in-Some-clause-found t c =
    found_here c.args.id c.args.nodes.now c.loop-node.node-index c.node-item.result c.loop-node-test.true c.node-item.is
    (sem_of c.in-Some.found.now) _ c.loop-node.invariant c.in-Some.ensures.found

pub acting::find_in-loop-node-preserved : goal.acting::find_in-loop-node-preserved
acting::find_in-loop-node-preserved t c =
    missed c.args.id c.args.nodes.now c.loop-node.node-index c.node-item.result c.loop-node-test.true c.node-item.is
    _ c.loop-node.invariant c.in-None.ensures.missing
