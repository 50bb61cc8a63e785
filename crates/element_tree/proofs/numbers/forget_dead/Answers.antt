use Rattle.std.proofs.Common.{rules, is_some}
use Rattle.std.proofs.lemmas.Fn.{filter_same}
use Rattle.node_tree.specs.Tree.{node_at}
use Rattle.element_tree.proofs.numbers.forget_dead.Goals as goal

pub returns : goal.returns
returns c = filter_same _ (λ x. is_some (node_at c.args.tree.now x.at)) _ (λ x b q r. search rules) _ _ c.retain.ensures.filtered
