use Rattle.reconcile.proofs.LawLemmas.{front_greatest, end_greatest}
use Rattle.reconcile.proofs.laws.front_and_end_are_longest.Goals as goal

pub returns : goal.returns
returns c = record { front = front_greatest; end = end_greatest }
