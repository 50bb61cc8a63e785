use Rattle.paint_owner.proofs.Changes.{marks_keep}
use Rattle.paint_owner.proofs.laws.marks_keep_layers.Goals as goal

pub returns : goal.returns
returns c = λ cell delegates o also hs old new is sets kept. marks_keep cell delegates o also hs old new is sets kept
