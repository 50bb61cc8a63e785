use Rattle.std.proofs.Common.{refl}
use Rattle.paint_owner.proofs.laws.worked_frame.Goals as goal

pub returns : goal.returns
returns c = record { marks = refl; count = refl }
