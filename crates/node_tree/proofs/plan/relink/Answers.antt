use Rattle.std.proofs.Common.{ap, ◌∙◌}
use Rattle.node_tree.specs.Forest.{TreeNode}
use Rattle.node_tree.proofs.plan.relink.Goals as goal

pub returns : goal.returns
returns g c =
    rw (← c.entry.view_is) (ap (λ v. record { parent = c.entry.inside.parent; children = c.entry.inside.children.items; value = v })
    (c.apply.ensures ∙ ap (λ (n : TreeNode _). g.U.Update.updated c.entry.inside.update n.value) c.node.view_is))
