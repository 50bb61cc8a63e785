use Rattle.std.proofs.Common.{◌*◌, ◌≤◌, []}
use Rattle.frame_run.specs.Job.{Stands, counted}
use Rattle.frame_run.specs.Reads.{HasRun}
use Rattle.frame_run.specs.Works.{IsJobCaused, RunWorks}
use Rattle.frame_run.specs.Text.{start}
use Rattle.frame_run.specs.Words.{Task}
use Rattle.frame_run.proofs.input.take_input.Given as goal

abbrev pub invariant-loop-turn : goal.invariant-loop-turn
invariant-loop-turn g l = record {
  turns : l.turn ≤ l.count;
  within : l.count ≤ 67108864;
  counted : counted l.job ≤ 2 * l.count;
  run : (task : Task) → Stands l.fn.job (λ v. (g.dyn-1.0.entry v).1) (start task) [] → HasRun task (g.S.Source.left l.fn.source) (g.S.Source.left l.source) (g.K.Sink.held l.fn.sink) (g.K.Sink.held l.sink) (Stands l.job (λ v. (g.dyn-1.0.entry v).1)) l.count;
  work : (task : Task) → Stands l.fn.job (λ v. (g.dyn-1.0.entry v).1) (start task) [] → RunWorks task (g.S.Source.left l.fn.source) (g.S.Source.left l.source) (g.K.Sink.held l.fn.sink) (g.K.Sink.held l.sink) (Stands l.job (λ v. (g.dyn-1.0.entry v).1)) (IsJobCaused l.job) l.count l.fn.builds l.builds l.fn.layouts l.layouts l.fn.paints l.paints;
  source_later : g.S.Source.faults l.fn.source ≤ g.S.Source.faults l.source;
  sink_later : g.K.Sink.faults l.fn.sink ≤ g.K.Sink.faults l.sink;
}
