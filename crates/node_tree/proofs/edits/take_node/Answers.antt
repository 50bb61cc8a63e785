use Rattle.std.proofs.Common.{◌∙◌}
use Rattle.node_tree.proofs.EditLemmas.{takes, both, if_some_at}
use Rattle.node_tree.proofs.edits.take_node.Goals as goal

pub returns-clause-takes : goal.returns-clause-takes
returns-clause-takes g c =
    let removed = if_some_at _ _ _ c.in-Some.is c.remove.ensures.removes in
    rw c.value_of.ensures (takes _ _ _ c.args.h c.in-Some.node c.requires.one removed
    (λ p e. both (λ m. c.unlist.ensures.unlinks p m (c.parent_in-parent.ensures ∙ e)) (c.unlist.ensures.dead p (c.parent_in-parent.ensures ∙ e)))
    (λ e. c.unlist.ensures.nodes (c.parent_in-parent.ensures ∙ e)))
