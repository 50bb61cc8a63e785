use Rattle.versioned_kinds.proofs.Listless.{built_without_lists}
use Rattle.versioned_kinds.proofs.Outputs.{outputs_list_nothing}
use Rattle.versioned_kinds.proofs.laws.programs_without_lists_build_none.Goals as goal

pub returns-clause-outputs : goal.returns-clause-outputs
returns-clause-outputs c = λ p place props slots fields values number bodies given. outputs_list_nothing p bodies place props slots fields values number given

pub returns-clause-trees : goal.returns-clause-trees
returns-clause-trees c = built_without_lists
