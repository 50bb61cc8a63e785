use Rattle.counted_phases.proofs.Counting.{few_outer, due_outer}
use Rattle.counted_phases.proofs.laws.outer_flushes_run_what_is_due.Goals as goal

pub returns-clause-few : goal.returns-clause-few
returns-clause-few c = few_outer

pub returns-clause-due : goal.returns-clause-due
returns-clause-due c = due_outer
