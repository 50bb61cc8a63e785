use Rattle.versioned_kinds.proofs.States.{first_keeps, step_keeps, tree_keeps}
use Rattle.versioned_kinds.proofs.laws.states_keep_to_their_version.Goals as goal

pub returns-clause-first : goal.returns-clause-first
returns-clause-first c = first_keeps

pub returns-clause-steps : goal.returns-clause-steps
returns-clause-steps c = step_keeps

pub returns-clause-trees : goal.returns-clause-trees
returns-clause-trees c = tree_keeps
