use Rattle.global_keys.proofs.Naming.{still_covered, left_as_they_were, removed_left, committed_covered}
use Rattle.global_keys.proofs.laws.removals_leave_covered.Goals as goal

pub returns : goal.returns
returns c = record {
  removed = λ r old new h n removes. still_covered r old new (left_as_they_were old new (removed_left old new h n removes (λ k. c.edit_laws.ensures.removes old new h k n removes)));
  dropped = λ r old new n drops. still_covered r old new (left_as_they_were old new (λ k. c.edit_laws.ensures.drops old new k n drops));
  committed = committed_covered;
}
