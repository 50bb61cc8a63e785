use Rattle.layout_walk.proofs.Fresh.{fresh}
use Rattle.layout_walk.proofs.laws.stored_layouts_are_full.Goals as goal

pub returns : goal.returns
returns c = fresh
