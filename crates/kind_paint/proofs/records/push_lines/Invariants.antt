-- The runs so far, with those of the lines that are left, are all.
use Rattle.std.proofs.Common.{◌≡◌, ◌++◌, map, drop}
use Rattle.screen_form.specs.OwnRecords.{runs_from}
use Rattle.kind_paint.proofs.records.push_lines.Given as goal

abbrev pub invariant-loop-k : goal.invariant-loop-k
invariant-loop-k l =
    l.records.items ++ (runs_from l.cell l.words l.color l.at l.k (drop l.k l.lines))
    ≡ l.fn.records.items ++ (runs_from l.cell l.words l.color l.at 0 l.lines)
