use Rattle.kept_phases.proofs.Whole.{kept_whole, whole_kept}
use Rattle.kept_phases.proofs.laws.layers_are_kept_whole.Goals as goal

pub returns-clause-whole : goal.returns-clause-whole
returns-clause-whole c = λ cell delegates o t alone kept. kept_whole cell delegates o t alone kept

pub returns-clause-root : goal.returns-clause-root
returns-clause-root c = λ cell delegates o t alone is kept. whole_kept cell delegates o t alone is kept
