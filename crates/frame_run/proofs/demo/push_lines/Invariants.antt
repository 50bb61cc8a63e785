use Rattle.std.proofs.Common.{◌≡◌, ◌-◌, ◌<◌, ◌++◌}
use Rattle.frame_run.specs.Demo.{first_number, next_number, demo_lines}
use Rattle.frame_run.proofs.demo.push_lines.Given as goal

abbrev pub invariant-loop-k : goal.invariant-loop-k
invariant-loop-k l =
    (l.x < 65537) × (l.out.items ++ demo_lines (l.size - l._k) l.size l.x ≡ l.fn.out.items ++ demo_lines l.size l.size (next_number (first_number l.fn.seed)))
