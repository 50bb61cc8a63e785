use Rattle.std.proofs.Common.{◌≡◌, drop}
use Rattle.wrap_table.specs.Pass.{IsMidway, table_start, table_end}
use Rattle.wrap_table.proofs.table.table_size.Given as goal

abbrev pub invariant-loop-height : goal.invariant-loop-height
invariant-loop-height l =
    (table_end l.widths l.pass (drop l.height-index l.heights) ≡ table_end l.widths table_start l.heights) × IsMidway l.widths l.pass
