use Rattle.std.proofs.Common.{◌≡◌, ◌+◌, ◌≤◌, [], drop, slice_range}
use Rattle.frame_run.specs.Demo.{count_starting}
use Rattle.frame_run.specs.Lines.{ended_lines}
use Rattle.frame_run.proofs.demo.lines_starting.Given as goal

abbrev pub invariant-loop-i : goal.invariant-loop-i
invariant-loop-i l =
    (l.start ≤ l.i) × (l.count ≤ l.i)
    × (l.count + count_starting l.word (ended_lines (slice_range l.text l.start l.i) (drop l.i l.text)) ≡ count_starting l.word (ended_lines [] l.text))
