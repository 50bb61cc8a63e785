use Rattle.versioned_kinds.proofs.Waiting.{none_there}
use Rattle.versioned_kinds.proofs.laws.lists_in_the_tree_wait.Goals as goal

pub returns : goal.returns
returns c = none_there
