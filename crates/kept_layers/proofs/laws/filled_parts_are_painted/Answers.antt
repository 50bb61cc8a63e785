use Rattle.kept_layers.proofs.Filling.{filled-is, root_filled}
use Rattle.kept_layers.proofs.laws.filled_parts_are_painted.Goals as goal

pub returns-clause-forest : goal.returns-clause-forest
returns-clause-forest c = filled-is

pub returns-clause-root : goal.returns-clause-root
returns-clause-root c = root_filled
