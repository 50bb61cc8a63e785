use Rattle.node_tree.specs.Forest.{without}
use Rattle.node_tree.proofs.TreeLemmas.{one_parent}
use Rattle.node_tree.proofs.TreeEdits.{took_is, root_once, inactive_once, taken_root, taken_inactive}
use Rattle.node_tree.proofs.Tree.take_leaf.Goals as goal

pub take_node-requires-clause-one : goal.take_node-requires-clause-one
take_node-requires-clause-one g c =
    let leaf = rw (← c.self.view_is) at c.requires in
    one_parent _ c.self.invariant.0 c.args.h c.self.invariant.1 leaf.live

pub take_node-requires-clause-root : goal.take_node-requires-clause-root
take_node-requires-clause-root g c = root_once (record { nodes = c.self.inside.nodes; root = c.self.inside.root; inactive = c.self.inside.inactive.items }) c.self.invariant.0 c.args.h c.self.invariant.1

pub take_node-requires-clause-once : goal.take_node-requires-clause-once
take_node-requires-clause-once g c = inactive_once (record { nodes = c.self.inside.nodes; root = c.self.inside.root; inactive = c.self.inside.inactive.items }) c.self.invariant.0 c.args.h c.self.invariant.1

pub returns-clause-root : goal.returns-clause-root
returns-clause-root g c = rw (← c.self.view_is) (taken_root (record { nodes = c.self.inside.nodes; root = c.self.inside.root; inactive = c.self.inside.inactive.items }) c.self.invariant.0 c.args.h _ c.self.invariant.1 (λ e. (c.take_node.ensures.top e).0) (λ p e. (c.take_node.ensures.child p e).0))

pub returns-clause-inactive : goal.returns-clause-inactive
returns-clause-inactive g c = rw (← c.self.view_is) (taken_inactive (record { nodes = c.self.inside.nodes; root = c.self.inside.root; inactive = c.self.inside.inactive.items }) c.self.invariant.0 c.args.h _ c.self.invariant.1 (λ e. (c.take_node.ensures.top e).1) (λ p e. (c.take_node.ensures.child p e).1))

pub returns-clause-plain : goal.returns-clause-plain
returns-clause-plain g c =
    let leaf = rw (← c.self.view_is) at c.requires in
    rw (← c.self.view_is) (took_is (record { nodes = c.self.inside.nodes; root = c.self.inside.root; inactive = c.self.inside.inactive.items }) _ c.args.h _ leaf c.take_node.ensures.takes
    (taken_root (record { nodes = c.self.inside.nodes; root = c.self.inside.root; inactive = c.self.inside.inactive.items }) c.self.invariant.0 c.args.h _ c.self.invariant.1 (λ e. (c.take_node.ensures.top e).0) (λ p e. (c.take_node.ensures.child p e).0))
    (taken_inactive (record { nodes = c.self.inside.nodes; root = c.self.inside.root; inactive = c.self.inside.inactive.items }) c.self.invariant.0 c.args.h _ c.self.invariant.1 (λ e. (c.take_node.ensures.top e).1) (λ p e. (c.take_node.ensures.child p e).1)))

pub invariant_of-self : goal.invariant_of-self
invariant_of-self g c =
    let leaf = rw (← c.self.view_is) at c.requires in (
      without c.args.h c.self.invariant.0,
      took_is (record { nodes = c.self.inside.nodes; root = c.self.inside.root; inactive = c.self.inside.inactive.items }) _ c.args.h _ leaf c.take_node.ensures.takes
          (taken_root (record { nodes = c.self.inside.nodes; root = c.self.inside.root; inactive = c.self.inside.inactive.items }) c.self.invariant.0 c.args.h _ c.self.invariant.1 (λ e. (c.take_node.ensures.top e).0) (λ p e. (c.take_node.ensures.child p e).0))
          (taken_inactive (record { nodes = c.self.inside.nodes; root = c.self.inside.root; inactive = c.self.inside.inactive.items }) c.self.invariant.0 c.args.h _ c.self.invariant.1 (λ e. (c.take_node.ensures.top e).1) (λ p e. (c.take_node.ensures.child p e).1))
          c.self.invariant.0 c.self.invariant.1,
    )
