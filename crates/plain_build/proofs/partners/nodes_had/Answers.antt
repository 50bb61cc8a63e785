use Rattle.std.proofs.Common.{sym, ap, ◌∙◌}
use Rattle.plain_tree.specs.PlainNode.{children_of}
use Rattle.build_form.specs.Partner.{nodes_had}
use Rattle.build_form.specs.Lent.{lent}
use Rattle.build_form.proofs.Below.{list_of-nodes_of}
use Rattle.plain_build.proofs.partners.nodes_had.Goals as goal

pub returns-in-Some : goal.returns-in-Some
returns-in-Some c =
    c.as_slice.ensures.value ∙ sym (list_of-nodes_of c.node.inside.children.items) ∙ ap children_of c.node.view_is
    ∙ sym (ap (λ p. nodes_had (lent p)) c.in-Some.is)
