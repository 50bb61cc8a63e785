use Rattle.kept_phases.proofs.Idle.{idle_redraws, idle_committed}
use Rattle.kept_phases.proofs.laws.parts_are_redrawn.Goals as goal

pub returns : goal.returns
returns c = λ old new is p. (idle_redraws old new is p, idle_committed old new is p)
