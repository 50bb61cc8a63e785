use Rattle.versioned_kinds.proofs.Checked.{checked_keeps, program_keeps}
use Rattle.versioned_kinds.proofs.Reading.{read_keeps, program_read_keeps}
use Rattle.versioned_kinds.proofs.laws.programs_keep_to_their_version.Goals as goal

pub returns-clause-templates : goal.returns-clause-templates
returns-clause-templates c = read_keeps

pub returns-clause-roots : goal.returns-clause-roots
returns-clause-roots c = checked_keeps

pub returns-clause-written : goal.returns-clause-written
returns-clause-written c = program_read_keeps

pub returns-clause-checked : goal.returns-clause-checked
returns-clause-checked c = program_keeps
