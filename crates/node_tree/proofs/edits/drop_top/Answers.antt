use Rattle.std.proofs.Common.{sym, ◌∙◌}
use Rattle.std.proofs.lemmas.Bool.{false≢true}
use Rattle.node_tree.proofs.EditLemmas.{root_without_here, root_without_other, others_absent}
use Rattle.node_tree.proofs.edits.drop_top.Goals as goal

pub returns-then-is_root-clause-root : goal.returns-then-is_root-clause-root
returns-then-is_root-clause-root c = sym (root_without_here c.args.h _ (c.is_root.ensures.0 c.if-is_root.true))

pub returns-then-is_root-clause-inactive : goal.returns-then-is_root-clause-inactive
returns-then-is_root-clause-inactive c = sym (others_absent c.args.h _ (c.requires.root (c.is_root.ensures.0 c.if-is_root.true)))

pub returns-else-is_root-clause-root : goal.returns-else-is_root-clause-root
returns-else-is_root-clause-root c = sym (root_without_other c.args.h _ (λ e. absurd (false≢true (sym c.if-is_root.false ∙ c.is_root.ensures.1 e))))
