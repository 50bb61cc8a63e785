use Rattle.std.proofs.Common.{map, refl}
use Rattle.plain_tree.specs.States.{preorder_of, preorder_in, seen}
use Rattle.plain_tree.specs.PlainNode.{nodes_of}
use Rattle.plain_tree.proofs.Walking.{gathered_more, gathered_all}
use Rattle.plain_tree.proofs.preorder.+preorder.Goals as goal

pub push_nodes-loop-node-preserved : goal.push_nodes-loop-node-preserved
push_nodes-loop-node-preserved t c =
    gathered_more preorder_of (λ ns. preorder_in (nodes_of ns)) refl (λ n ns. refl) c.args.below.now c.loop-node.node-index c.node-item.result
    (map seen c.loop-node.nodes.items) (map seen c.push_node.new.nodes.items) _ c.loop-node-test.true c.node-item.is c.in_ok-push_node.ensures c.loop-node.invariant

pub push_nodes-returns : goal.push_nodes-returns
push_nodes-returns t c =
    gathered_all preorder_of (λ ns. preorder_in (nodes_of ns)) refl (λ n ns. refl) c.args.below.now c.loop-node.node-index (map seen c.loop-node.nodes.items) _
    c.loop-node-test.false c.loop-node.invariant
