use Rattle.reconcile.proofs.LawLemmas.{matched_by_key, unmatched}
use Rattle.reconcile.proofs.laws.keyed_children_are_matched.Goals as goal

pub returns : goal.returns
returns c = record { keyed = matched_by_key; unkeyed = unmatched }
