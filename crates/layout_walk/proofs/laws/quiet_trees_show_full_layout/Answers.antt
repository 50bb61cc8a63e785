use Rattle.layout_walk.proofs.Fresh.{fresh}
use Rattle.layout_walk.proofs.Seen.{seen}
use Rattle.layout_walk.proofs.laws.quiet_trees_show_full_layout.Goals as goal

pub returns : goal.returns
returns c = λ P law f asks places all quiet stand. seen P f (fresh P law f all) quiet asks places stand
