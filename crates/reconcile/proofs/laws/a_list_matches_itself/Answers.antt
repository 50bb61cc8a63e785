use Rattle.reconcile.proofs.LawLemmas.{matching_itself}
use Rattle.reconcile.proofs.laws.a_list_matches_itself.Goals as goal

pub returns : goal.returns
returns c = matching_itself
