use Rattle.versioned_kinds.proofs.Shown.{none_shown}
use Rattle.versioned_kinds.proofs.Waiting.{whole_none_waits}
use Rattle.versioned_kinds.proofs.laws.waiting_lists_are_in_the_tree.Goals as goal

pub returns-clause-trees : goal.returns-clause-trees
returns-clause-trees c = λ b screen old next after root mid tree s begun waits whole none. waits (whole_none_waits b screen old next after root mid tree s begun whole none)

pub returns-clause-renders : goal.returns-clause-renders
returns-clause-renders c = none_shown
