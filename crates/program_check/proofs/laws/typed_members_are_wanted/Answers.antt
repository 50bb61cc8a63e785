use Rattle.program_check.proofs.KnownSorts.{member-wanted}
use Rattle.program_check.proofs.laws.typed_members_are_wanted.Goals as goal

pub returns : goal.returns
returns c = member-wanted
