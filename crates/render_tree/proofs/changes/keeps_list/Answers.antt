use Rattle.std.proofs.Common.{ap, ◌∙◌}
use Rattle.fx_handles.specs.HandleLaws.{same_is}
use Rattle.node_tree.specs.Tree.{children_at}
use Rattle.render_tree.proofs.SameReads.{same_list}
use Rattle.render_tree.proofs.changes.keeps_list.Goals as goal

pub returns : goal.returns
returns c =
    same_list _ (λ h k. same_is h k) c.eq.result c.children.result.now c.children-2.result.now c.args.entry.now.children (children_at c.args.tree.now c.args.entry.now.at) c.eq.ensures c.children.ensures
    (c.children-2.ensures.value ∙ ap (children_at c.args.tree.now) c.at.ensures)
