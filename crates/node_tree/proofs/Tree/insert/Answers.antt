use Rattle.std.proofs.Common.{refl}
use Rattle.node_tree.specs.Forest.{paste}
use Rattle.node_tree.specs.Forest.Forest.{none, tree}
use Rattle.node_tree.proofs.EditLemmas.{both_ok, err_two}
use Rattle.node_tree.proofs.TreeEdits.{inserted_is, tree_of_if, same_tree}
use Rattle.node_tree.proofs.Tree.insert.Goals as goal

pub returns-clause-plain : goal.returns-clause-plain
returns-clause-plain g c = rw (← c.self.view_is) (both_ok _ _ _ _ c.insert_at.ensures.adds c.insert_at.ensures.root
    (λ h adds root. inserted_is _ _ c.args.parent c.args.at h c.args.value (rw (← c.self.view_is) at c.requires) adds root refl))

pub invariant_of-self : goal.invariant_of-self
invariant_of-self g c =
    tree_of_if c.insert_at.result (record { nodes = c.self.inside.nodes; root = c.self.inside.root; inactive = c.self.inside.inactive.items }) _ (λ h f. paste c.args.parent c.args.at (tree h c.args.value none none) f)
    (both_ok _ _ _ _ c.insert_at.ensures.adds c.insert_at.ensures.root
    (λ h adds root. inserted_is _ _ c.args.parent c.args.at h c.args.value (rw (← c.self.view_is) at c.requires) adds root refl))
    (err_two _ _ _ _ c.insert_at.ensures.err (λ nodes root. same_tree _ _ _ _ _ _ nodes root refl))
    c.self.invariant
