use Rattle.std.proofs.Common.{refl}
use Rattle.versioned_kinds.proofs.Shown.{keeps_to_first, shows_none}
use Rattle.versioned_kinds.proofs.Waiting.{none_waits}
use Rattle.versioned_kinds.proofs.laws.first_versions_have_no_lists.Goals as goal

pub returns-clause-trees : goal.returns-clause-trees
returns-clause-trees c = λ tree h. keeps_to_first 1 tree refl h

pub returns-clause-renders : goal.returns-clause-renders
returns-clause-renders c = shows_none

pub returns-clause-waiting : goal.returns-clause-waiting
returns-clause-waiting c = none_waits
