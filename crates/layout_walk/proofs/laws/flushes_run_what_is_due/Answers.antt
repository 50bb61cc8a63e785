use Rattle.layout_walk.proofs.Counting.{ticks_due, none_due, few_runs, runs_join}
use Rattle.layout_walk.proofs.laws.flushes_run_what_is_due.Goals as goal

pub returns-clause-bound : goal.returns-clause-bound
returns-clause-bound c = ticks_due

pub returns-clause-after : goal.returns-clause-after
returns-clause-after c = none_due

pub returns-clause-rounds : goal.returns-clause-rounds
returns-clause-rounds c = runs_join

pub returns-clause-once : goal.returns-clause-once
returns-clause-once c = few_runs
