use Rattle.std.proofs.Common.{arith, ap}
use Rattle.screen_form.specs.Sem.{total}
use Rattle.semantics_tree.proofs.Weights.{node_heavier, item_lighter}
use Rattle.semantics_tree.proofs.printing.+text.Goals as goal

pub push_node-push_nodes-requires : goal.push_node-push_nodes-requires
push_node-push_nodes-requires t c =
    let heavier = node_heavier c.args.node.now in
    let same = ap total c.get-below.ensures in
    (omega (arith, heavier, same, c.decreases), tt)

pub push_nodes-push_node-requires : goal.push_nodes-push_node-requires
push_nodes-push_node-requires t c =
    let lighter = item_lighter c.args.nodes.now c.loop-node.node-index c.node-item.result c.loop-node-test.true c.node-item.is in
    (omega (arith, lighter, c.decreases), tt)
