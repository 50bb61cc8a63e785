use Rattle.reconcile.proofs.LawLemmas.{matched_can_update}
use Rattle.reconcile.proofs.laws.matched_pairs_can_update.Goals as goal

pub returns : goal.returns
returns c = matched_can_update
