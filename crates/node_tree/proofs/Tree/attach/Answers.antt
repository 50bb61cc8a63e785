use Rattle.node_tree.specs.Forest.{paste, tree_of, without}
use Rattle.node_tree.proofs.TreeLemmas.{one_parent}
use Rattle.node_tree.proofs.EditLemmas.{err_three}
use Rattle.node_tree.proofs.TreeEdits.{attached_on, inactive_top, hang_apart, tree_of_on, same_tree}
use Rattle.node_tree.proofs.Tree.attach.Goals as goal

pub attach_at-requires-clause-live : goal.attach_at-requires-clause-live
attach_at-requires-clause-live g c = (inactive_top _ c.self.invariant.0 c.args.h c.self.invariant.1 (rw (← c.self.view_is) at c.requires.top)).0

pub attach_at-requires-clause-top : goal.attach_at-requires-clause-top
attach_at-requires-clause-top g c = (inactive_top _ c.self.invariant.0 c.args.h c.self.invariant.1 (rw (← c.self.view_is) at c.requires.top)).1

pub attach_at-requires-clause-one : goal.attach_at-requires-clause-one
attach_at-requires-clause-one g c =
    let top = inactive_top _ c.self.invariant.0 c.args.h c.self.invariant.1 (rw (← c.self.view_is) at c.requires.top) in
    one_parent _ c.self.invariant.0 c.args.h c.self.invariant.1 top.0

pub attach_at-requires-clause-apart : goal.attach_at-requires-clause-apart
attach_at-requires-clause-apart g c = hang_apart _ c.self.invariant.0 c.args.h c.args.parent c.args.at c.self.invariant.1 (rw (← c.self.view_is) at c.requires.top) (rw (← c.self.view_is) at c.requires.place)

pub returns-clause-plain : goal.returns-clause-plain
returns-clause-plain g c = rw (← c.self.view_is) (attached_on c.attach_at.result (record { nodes = c.self.inside.nodes; root = c.self.inside.root; inactive = c.self.inside.inactive.items }) (record { nodes = c.attach_at.new.nodes; root = c.attach_at.new.root; inactive = c.attach_at.new.inactive.items }) c.args.h c.args.parent c.args.at (rw (← c.self.view_is) at c.requires.top) (rw (← c.self.view_is) at c.requires.place) c.attach_at.ensures.hooks c.attach_at.ensures.root c.attach_at.ensures.inactive)

pub invariant_of-self : goal.invariant_of-self
invariant_of-self g c =
    tree_of_on c.attach_at.result (record { nodes = c.self.inside.nodes; root = c.self.inside.root; inactive = c.self.inside.inactive.items }) (record { nodes = c.attach_at.new.nodes; root = c.attach_at.new.root; inactive = c.attach_at.new.inactive.items }) (λ f. paste c.args.parent c.args.at (tree_of c.args.h f) (without c.args.h f))
    (attached_on c.attach_at.result (record { nodes = c.self.inside.nodes; root = c.self.inside.root; inactive = c.self.inside.inactive.items }) (record { nodes = c.attach_at.new.nodes; root = c.attach_at.new.root; inactive = c.attach_at.new.inactive.items }) c.args.h c.args.parent c.args.at (rw (← c.self.view_is) at c.requires.top) (rw (← c.self.view_is) at c.requires.place) c.attach_at.ensures.hooks c.attach_at.ensures.root c.attach_at.ensures.inactive)
    (err_three _ _ _ _ _ c.attach_at.ensures.err (λ nodes root inactive. same_tree _ _ _ _ _ _ nodes root inactive))
    c.self.invariant
