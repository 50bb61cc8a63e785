use Rattle.frame_run.proofs.StatusLemmas.{on_memory}
use Rattle.frame_run.proofs.input.finish.Goals as goal

pub returns-in-Whole-clause-work : goal.returns-in-Whole-clause-work
returns-in-Whole-clause-work g c frames place raw stands caused = on_memory c.in-Ok.status _ (c.in-Ok.ensures.work frames place raw stands caused)
