use Rattle.std.proofs.Common.{None, Some, option_map, ap, ◌∙◌}
use Rattle.element_tree.specs.Element.{Element}
use Rattle.node_tree.specs.Tree.{node_at}
use Rattle.element_tree.proofs.Fieldwise.{fields_changed}
use Rattle.element_tree.proofs.laws.fields_change_nodes.Goals as goal

pub returns : goal.returns
returns c = λ t f h e fields scrolled is at only.
    fields_changed (node_at t) scrolled h e at (λ k v there number. only k (ap (option_map (λ (x : Element). x.number)) there ∙ ap Some number)) fields None f is.stands is.distinct
