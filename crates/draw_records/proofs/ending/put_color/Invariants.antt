use Rattle.std.proofs.Common.{◌≡◌, ◌+◌, ◌-◌, ◌++◌, drop}
use Rattle.draw_records.specs.Printed.{hex_digits}
use Rattle.draw_records.proofs.ending.put_color.Given as goal

abbrev pub invariant-loop-done : goal.invariant-loop-done
invariant-loop-done l =
    (l.start + l.done ≡ l.fn.end) × (hex_digits (8 - l.done) l.left ++ drop l.start l.buf ≡ hex_digits 8 l.fn.color ++ drop l.fn.end l.fn.buf)
