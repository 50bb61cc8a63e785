use Rattle.std.proofs.Common.{◌-◌, ◌≤◌, length, drop}
use Rattle.fx_outside.specs.Told.{IsSoFar}
use Rattle.frame_run.proofs.output.write_all.Given as goal

abbrev pub invariant-loop-at : goal.invariant-loop-at
invariant-loop-at g l = record {
  within : l.at ≤ length l.text;
  so_far : IsSoFar (g.K.Sink.held l.fn.sink) (g.K.Sink.held l.sink) l.text (drop l.at l.text);
  later : g.K.Sink.faults l.fn.sink ≤ g.K.Sink.faults l.sink;
}

abbrev pub decreases-loop-at : goal.decreases-loop-at
decreases-loop-at g l = length l.text - l.at
