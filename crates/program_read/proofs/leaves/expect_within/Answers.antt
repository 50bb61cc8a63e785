use Rattle.std.proofs.Common.{arith}
use Rattle.program_read.proofs.ItemsLemmas.{at_most-over, at_most-within}
use Rattle.program_read.proofs.WalkLemmas.{StopsAs-here}
use Rattle.program_read.proofs.leaves.expect_within.Goals as goal

pub returns-then-entries-limit : goal.returns-then-entries-limit
returns-then-entries-limit c =
    StopsAs-here _ _ _ c.here.ensures (at_most-over c.args.entries.now c.args.limit (omega arith))

pub returns : goal.returns
returns c = at_most-within c.args.entries.now c.args.limit (omega arith)
