use Rattle.program_check.proofs.TypedPrograms.{program-typed}
use Rattle.program_check.proofs.laws.checked_programs_are_typed.Goals as goal

pub returns : goal.returns
returns c = program-typed
