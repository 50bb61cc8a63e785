use Rattle.node_tree.specs.Forest.{append, tree_of, without}
use Rattle.node_tree.proofs.TreeLemmas.{one_parent}
use Rattle.node_tree.proofs.EditLemmas.{err_three}
use Rattle.node_tree.proofs.TreeEdits.{detached_on, tree_of_on, same_tree}
use Rattle.node_tree.proofs.Tree.detach.Goals as goal

pub detach_node-requires-clause-one : goal.detach_node-requires-clause-one
detach_node-requires-clause-one g c =
    let can = rw (← c.self.view_is) at c.requires in
    one_parent _ c.self.invariant.0 c.args.h c.self.invariant.1 can.live

pub returns-clause-plain : goal.returns-clause-plain
returns-clause-plain g c = rw (← c.self.view_is) (detached_on c.detach_node.result (record { nodes = c.self.inside.nodes; root = c.self.inside.root; inactive = c.self.inside.inactive.items }) (record { nodes = c.detach_node.new.nodes; root = c.detach_node.new.root; inactive = c.detach_node.new.inactive.items }) c.args.h (rw (← c.self.view_is) at c.requires) c.detach_node.ensures.nodes c.detach_node.ensures.root c.detach_node.ensures.inactive)

pub invariant_of-self : goal.invariant_of-self
invariant_of-self g c =
    tree_of_on c.detach_node.result (record { nodes = c.self.inside.nodes; root = c.self.inside.root; inactive = c.self.inside.inactive.items }) (record { nodes = c.detach_node.new.nodes; root = c.detach_node.new.root; inactive = c.detach_node.new.inactive.items }) (λ f. append (without c.args.h f) (tree_of c.args.h f))
    (detached_on c.detach_node.result (record { nodes = c.self.inside.nodes; root = c.self.inside.root; inactive = c.self.inside.inactive.items }) (record { nodes = c.detach_node.new.nodes; root = c.detach_node.new.root; inactive = c.detach_node.new.inactive.items }) c.args.h (rw (← c.self.view_is) at c.requires) c.detach_node.ensures.nodes c.detach_node.ensures.root c.detach_node.ensures.inactive)
    (err_three _ _ _ _ _ c.detach_node.ensures.err (λ nodes root inactive. same_tree _ _ _ _ _ _ nodes root inactive))
    c.self.invariant
