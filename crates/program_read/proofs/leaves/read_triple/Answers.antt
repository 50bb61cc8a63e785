use Rattle.std.proofs.Common.{arith, ap, ◌∙◌}
use Rattle.program_read.specs.ShapeFault.{and_then}
use Rattle.program_read.specs.Leaves.{three_of}
use Rattle.program_read.proofs.ItemsLemmas.{three_of-other}
use Rattle.program_read.proofs.WalkLemmas.{StopsAs-here}
use Rattle.program_read.proofs.leaves.read_triple.Goals as goal

pub returns-then-len-ne3 : goal.returns-then-len-ne3
returns-then-len-ne3 c =
    StopsAs-here _ _ _ c.here.ensures
    (ap (λ w. and_then w three_of) c.in_ok-entries.ensures ∙ three_of-other c.in_ok-entries.entries.now.items (omega arith))
