use Rattle.std.proofs.Common.{sym, ◌∙◌}
use Rattle.node_tree.proofs.TreeLemmas.{size_is}
use Rattle.node_tree.proofs.Tree.len.Goals as goal

pub returns-clause-size : goal.returns-clause-size
returns-clause-size g c = rw (← c.self.view_is) (λ f is. c.len.ensures.value ∙ sym (size_is _ f is))
