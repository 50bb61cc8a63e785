use Rattle.counted_phases.proofs.Undue.{root_undue_flags, root_undue_firm}
use Rattle.counted_phases.proofs.laws.outer_flushes_stay_in_their_region.Goals as goal

pub returns-clause-flags : goal.returns-clause-flags
returns-clause-flags c = root_undue_flags

pub returns-clause-bounds : goal.returns-clause-bounds
returns-clause-bounds c = root_undue_firm
