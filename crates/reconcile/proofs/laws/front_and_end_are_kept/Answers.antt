use Rattle.reconcile.proofs.LawLemmas.{front_kept, end_kept}
use Rattle.reconcile.proofs.laws.front_and_end_are_kept.Goals as goal

pub returns : goal.returns
returns c = record { front = front_kept; end = end_kept }
