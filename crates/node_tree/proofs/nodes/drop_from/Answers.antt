use Rattle.std.proofs.Common.{not, rules}
use Rattle.std.proofs.lemmas.Fn.{filter_same}
use Rattle.fx_handles.specs.Handle.{same}
use Rattle.node_tree.proofs.nodes.drop_from.Goals as goal

pub returns-clause-items : goal.returns-clause-items
unfolding same
returns-clause-items c = filter_same _ (λ k. not (same k c.args.h)) _ (λ x b q r. search rules) _ _ c.retain.ensures.filtered
