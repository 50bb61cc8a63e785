use Rattle.kept_layers.proofs.Agreeing.{IsRight-done}
use Rattle.kept_layers.proofs.Calming.{fresh_after, IsMarked-calmed}
use Rattle.kept_layers.proofs.Redoing.{live_run}
use Rattle.kept_layers.proofs.laws.stale_boundaries_suffice.Goals as goal

pub returns-clause-done : goal.returns-clause-done
returns-clause-done c = live_run

pub returns-clause-right : goal.returns-clause-right
returns-clause-right c = IsRight-done

pub returns-clause-fresh : goal.returns-clause-fresh
returns-clause-fresh c = fresh_after

pub returns-clause-marked : goal.returns-clause-marked
returns-clause-marked c = IsMarked-calmed
