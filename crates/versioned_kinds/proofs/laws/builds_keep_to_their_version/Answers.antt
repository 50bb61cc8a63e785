use Rattle.versioned_kinds.specs.Versions.{LookIsOf}
use Rattle.build_form.specs.Program.{blueprint_of}
use Rattle.versioned_kinds.proofs.Built.{first_meets, built_meets}
use Rattle.versioned_kinds.proofs.Outputs.{outputs_keep}
use Rattle.versioned_kinds.proofs.laws.builds_keep_to_their_version.Goals as goal

pub returns-clause-first : goal.returns-clause-first
returns-clause-first c = λ p old next root tree s keeps widget is.
    first_meets (LookIsOf p.version) (blueprint_of p) old (outputs_keep p keeps) next root tree s widget is

pub returns-clause-whole : goal.returns-clause-whole
returns-clause-whole c = λ p screen old next after root tree keeps widget is.
    built_meets (LookIsOf p.version) (blueprint_of p) old (outputs_keep p keeps) screen next after root tree widget is
