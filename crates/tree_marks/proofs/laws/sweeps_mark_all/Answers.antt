use Rattle.tree_marks.proofs.Sweeps.{mark_all-sweep}
use Rattle.tree_marks.proofs.laws.sweeps_mark_all.Goals as goal

pub returns : goal.returns
returns g c = mark_all-sweep
