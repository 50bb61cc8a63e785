use Rattle.counted_phases.proofs.Twins.{outer_flags, outer_first}
use Rattle.counted_phases.proofs.laws.outer_flags_have_their_region.Goals as goal

pub returns-clause-flags : goal.returns-clause-flags
returns-clause-flags c = λ before old. outer_flags before c.same_means_equal.ensures.looks old

pub returns-clause-first : goal.returns-clause-first
returns-clause-first c = λ before h o kids top was outer. outer_first before h o kids top was outer
