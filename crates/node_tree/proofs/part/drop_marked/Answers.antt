use Rattle.std.proofs.Common.{not, rules}
use Rattle.std.proofs.lemmas.Fn.{filter_same}
use Rattle.node_tree.specs.Trims.{marked}
use Rattle.node_tree.proofs.part.drop_marked.Goals as goal

pub returns : goal.returns
returns c = filter_same _ (λ k. not (marked c.args.named.now k)) _ (λ x b q r. search rules) _ _ c.retain.ensures.filtered
