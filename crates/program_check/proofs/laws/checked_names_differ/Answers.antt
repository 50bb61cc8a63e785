use Rattle.program_check.proofs.DistinctLemmas.{program-once}
use Rattle.program_check.proofs.laws.checked_names_differ.Goals as goal

pub returns : goal.returns
returns c = program-once
