use Rattle.build_walk.proofs.Bare.{first_bare}
use Rattle.build_walk.proofs.Merging.{bare_nodes}
use Rattle.build_walk.proofs.laws.waiting_lists_are_bare.Goals as goal

pub returns-clause-first : goal.returns-clause-first
returns-clause-first c = first_bare

pub returns-clause-elements : goal.returns-clause-elements
returns-clause-elements c = bare_nodes
