use Rattle.std.proofs.Common.{refl}
use Rattle.node_tree.specs.Forest.Forest.{none, tree}
use Rattle.node_tree.specs.Mounting.{put_last}
use Rattle.node_tree.proofs.EditLemmas.{both_ok, err_two}
use Rattle.node_tree.proofs.TreeEdits.{tree_of_if, same_tree}
use Rattle.node_tree.proofs.MountLemmas.{adds_last, mounted_is}
use Rattle.node_tree.proofs.Tree.mount.Goals as goal

pub returns-clause-adds : goal.returns-clause-adds
returns-clause-adds g c = rw (← c.self.view_is)
    (adds_last (record { nodes = c.self.inside.nodes; root = c.self.inside.root; inactive = c.self.inside.inactive.items }) _ c.args.parent c.args.value c.mount_at.result c.mount_at.ensures.below c.mount_at.ensures.top)

pub returns-clause-plain : goal.returns-clause-plain
returns-clause-plain g c = rw (← c.self.view_is) (both_ok _ _ _ _
    (adds_last (record { nodes = c.self.inside.nodes; root = c.self.inside.root; inactive = c.self.inside.inactive.items }) _ c.args.parent c.args.value c.mount_at.result c.mount_at.ensures.below c.mount_at.ensures.top) c.mount_at.ensures.root
    (λ h adds root. mounted_is _ _ c.args.parent h c.args.value (rw (← c.self.view_is) at c.requires.place) adds root refl))

pub invariant_of-self : goal.invariant_of-self
invariant_of-self g c =
    tree_of_if c.mount_at.result (record { nodes = c.self.inside.nodes; root = c.self.inside.root; inactive = c.self.inside.inactive.items }) _ (λ h f. put_last c.args.parent (tree h c.args.value none none) f)
    (both_ok _ _ _ _
    (adds_last (record { nodes = c.self.inside.nodes; root = c.self.inside.root; inactive = c.self.inside.inactive.items }) _ c.args.parent c.args.value c.mount_at.result c.mount_at.ensures.below c.mount_at.ensures.top) c.mount_at.ensures.root
    (λ h adds root. mounted_is _ _ c.args.parent h c.args.value (rw (← c.self.view_is) at c.requires.place) adds root refl))
    (err_two _ _ _ _ c.mount_at.ensures.err (λ nodes root. same_tree _ _ _ _ _ _ nodes root refl))
    c.self.invariant
