use Rattle.std.proofs.Common.{sym, ◌∙◌}
use Rattle.element_tree.proofs.Indexed.{same_some}
use Rattle.element_tree.proofs.ElementTree.number_laws.Goals as goal

pub returns-clause-once : goal.returns-clause-once
returns-clause-once c = rw (← c.self.view_is) (λ n h k first second. same_some h k (sym (c.self.invariant.to_index n h first) ∙ c.self.invariant.to_index n k second))

pub returns-clause-made : goal.returns-clause-made
returns-clause-made c = rw (← c.self.view_is) c.self.invariant.made
