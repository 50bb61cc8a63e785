use Rattle.kept_phases.proofs.Carrying.{redrawn_layers}
use Rattle.kept_phases.proofs.laws.redraws_keep_layers.Goals as goal

pub returns : goal.returns
returns c = λ cell delegates o old new r kinds is kept. redrawn_layers cell delegates old new r kinds o is kept
