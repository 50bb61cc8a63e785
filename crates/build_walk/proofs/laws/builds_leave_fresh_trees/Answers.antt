use Rattle.build_walk.proofs.Made.{build_fresh, first_fresh}
use Rattle.build_walk.proofs.laws.builds_leave_fresh_trees.Goals as goal

pub returns-clause-first : goal.returns-clause-first
returns-clause-first c = λ b old next root tree s e. first_fresh b old next root tree s e

pub returns-clause-whole : goal.returns-clause-whole
returns-clause-whole c = λ b screen old next after root tree e. build_fresh b screen old next after root tree e
