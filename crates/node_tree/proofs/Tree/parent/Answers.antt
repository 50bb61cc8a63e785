use Rattle.std.proofs.Common.{sym, ◌∙◌}
use Rattle.node_tree.proofs.TreeLemmas.{parent_facts, if_some_then}
use Rattle.node_tree.proofs.Tree.parent.Goals as goal

pub returns-clause-holds : goal.returns-clause-holds
returns-clause-holds g c = rw (← c.self.view_is) (if_some_then _ _ (λ p e. (parent_facts _ c.self.invariant.0 c.args.h p c.self.invariant.1 (sym c.parent_in.ensures ∙ e)).0))

pub returns-clause-larger : goal.returns-clause-larger
returns-clause-larger g c = rw (← c.self.view_is) (if_some_then _ _ (λ p e. (parent_facts _ c.self.invariant.0 c.args.h p c.self.invariant.1 (sym c.parent_in.ensures ∙ e)).1))

pub returns-clause-listed : goal.returns-clause-listed
returns-clause-listed g c = rw (← c.self.view_is) (if_some_then _ _ (λ p e. (parent_facts _ c.self.invariant.0 c.args.h p c.self.invariant.1 (sym c.parent_in.ensures ∙ e)).2))
