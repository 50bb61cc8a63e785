use Rattle.versioned_kinds.proofs.Worked.{works}
use Rattle.versioned_kinds.proofs.laws.worked_versions.Goals as goal

pub returns : goal.returns
returns c = works
