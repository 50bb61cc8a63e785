use Rattle.tree_marks.proofs.Worked.{works}
use Rattle.tree_marks.proofs.laws.worked_marks.Goals as goal

pub returns : goal.returns
returns c = works
