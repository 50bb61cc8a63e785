use Rattle.reconcile.proofs.LawLemmas.{matched_once}
use Rattle.reconcile.proofs.laws.no_child_is_matched_twice.Goals as goal

pub returns : goal.returns
returns c = matched_once
