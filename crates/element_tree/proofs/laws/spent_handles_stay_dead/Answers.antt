use Rattle.element_tree.proofs.Lawful.{spent_dead}
use Rattle.element_tree.proofs.laws.spent_handles_stay_dead.Goals as goal

pub returns : goal.returns
returns c = record { dead = spent_dead; used = λ old new q i h k e adds spent. spent_dead new k (adds.spent k spent) }
