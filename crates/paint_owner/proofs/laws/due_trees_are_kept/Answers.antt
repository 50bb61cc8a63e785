use Rattle.paint_owner.proofs.Due.{due_kept}
use Rattle.paint_owner.proofs.laws.due_trees_are_kept.Goals as goal

pub returns : goal.returns
returns c = λ cell delegates o t due. due_kept cell delegates o t due
