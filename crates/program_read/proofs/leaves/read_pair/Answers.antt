use Rattle.std.proofs.Common.{arith, ap, ◌∙◌}
use Rattle.program_read.specs.ShapeFault.{and_then}
use Rattle.program_read.specs.Leaves.{two_of}
use Rattle.program_read.proofs.ItemsLemmas.{two_of-other}
use Rattle.program_read.proofs.WalkLemmas.{StopsAs-here}
use Rattle.program_read.proofs.leaves.read_pair.Goals as goal

pub returns-then-len-ne2 : goal.returns-then-len-ne2
returns-then-len-ne2 c =
    StopsAs-here _ _ _ c.here.ensures
    (ap (λ w. and_then w two_of) c.in_ok-entries.ensures ∙ two_of-other c.in_ok-entries.entries.now.items (omega arith))
