use Rattle.kept_layers.proofs.Small.{works}
use Rattle.kept_layers.proofs.laws.worked_groups.Goals as goal

pub returns : goal.returns
returns c = works
