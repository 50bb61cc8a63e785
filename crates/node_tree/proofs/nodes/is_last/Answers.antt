use Rattle.std.proofs.Common.{ap, ◌∙◌, ◌∷◌, ◌++◌, []}
use Rattle.node_tree.proofs.nodes.is_last.Goals as goal

pub returns-in-Some : goal.returns-in-Some
returns-in-Some c = λ t.
    let ends = c.in-Some.ensures.last in
    (ends.0, ends.1 ∙ ap (λ x. ends.0 ++ x ∷ []) (c.is_same.ensures.0 t))
