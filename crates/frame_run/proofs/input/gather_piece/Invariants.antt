use Rattle.std.proofs.Common.{ℕ, ◌+◌, ◌*◌, ◌≤◌, List, ◌++◌, take, drop}
use Rattle.work_sets.specs.Before.{Frames}
use Rattle.frame_run.specs.Works.{IsJobCaused, WorksOn}
use Rattle.frame_run.specs.Lines.{ended_lines, last_line}
use Rattle.frame_run.specs.Text.{At, after_lines, lines_text}
use Rattle.frame_run.specs.Job.{Stands, Midway, counted}
use Rattle.frame_run.proofs.input.gather_piece.Given as goal

abbrev pub invariant-loop-byte : goal.invariant-loop-byte
invariant-loop-byte g l = record {
  midway : (place : At) (raw : List ℕ) → Stands l.fn.job (λ v. (g.dyn-1.0.entry v).1) place raw
      → Midway (Stands l.job (λ v. (g.dyn-1.0.entry v).1)) (drop l.byte-index l.piece) (after_lines place (ended_lines raw l.piece)) (last_line raw l.piece)
      (g.K.Sink.held l.fn.sink) (g.K.Sink.held l.sink) l.gathered.text.items (l.fn.gathered.text.items ++ lines_text place (ended_lines raw l.piece));
  work : (frames : Frames) (place : At) (raw : List ℕ) → Stands l.fn.job (λ v. (g.dyn-1.0.entry v).1) place raw → IsJobCaused l.fn.job frames place
      → WorksOn (Stands l.job (λ v. (g.dyn-1.0.entry v).1)) (IsJobCaused l.job) frames place raw (take l.byte-index l.piece) l.fn.builds l.builds l.fn.layouts l.layouts l.fn.paints l.paints;
  counted : counted l.job ≤ counted l.fn.job + 2 * l.byte-index;
  later : g.K.Sink.faults l.fn.sink ≤ g.K.Sink.faults l.sink;
}
