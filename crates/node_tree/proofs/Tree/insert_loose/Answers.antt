use Rattle.std.proofs.Common.{refl}
use Rattle.node_tree.specs.Forest.{append}
use Rattle.node_tree.specs.Forest.Forest.{none, tree}
use Rattle.node_tree.proofs.EditLemmas.{both_ok, err_two}
use Rattle.node_tree.proofs.TreeEdits.{loosened_is, tree_of_if, same_tree}
use Rattle.node_tree.proofs.Tree.insert_loose.Goals as goal

pub returns-clause-plain : goal.returns-clause-plain
returns-clause-plain g c = rw (← c.self.view_is) (both_ok _ _ _ _ c.insert_last.ensures.adds c.insert_last.ensures.inactive
    (λ h adds inactive. loosened_is _ _ h c.args.value adds refl inactive))

pub invariant_of-self : goal.invariant_of-self
invariant_of-self g c =
    tree_of_if c.insert_last.result (record { nodes = c.self.inside.nodes; root = c.self.inside.root; inactive = c.self.inside.inactive.items }) _ (λ h f. append f (tree h c.args.value none none))
    (both_ok _ _ _ _ c.insert_last.ensures.adds c.insert_last.ensures.inactive (λ h adds inactive. loosened_is _ _ h c.args.value adds refl inactive))
    (err_two _ _ _ _ c.insert_last.ensures.err (λ nodes inactive. same_tree _ _ _ _ _ _ nodes refl inactive))
    c.self.invariant
