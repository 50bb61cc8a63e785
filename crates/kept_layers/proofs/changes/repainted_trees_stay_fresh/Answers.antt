use Rattle.kept_layers.proofs.Repainting.{fresh_again, root_stays}
use Rattle.kept_layers.proofs.changes.repainted_trees_stay_fresh.Goals as goal

pub returns-clause-boundaries : goal.returns-clause-boundaries
returns-clause-boundaries c = λ cell before after was s p old stands fresh above f. fresh_again cell before after was s p old stands fresh above f

pub returns-clause-root : goal.returns-clause-root
returns-clause-root c = root_stays
