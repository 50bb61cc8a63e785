use Rattle.reconcile.proofs.LawLemmas.{length-matching}
use Rattle.reconcile.proofs.laws.one_answer_a_child.Goals as goal

pub returns : goal.returns
returns c = length-matching
