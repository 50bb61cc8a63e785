use Rattle.program_read.proofs.ItemsLemmas.{one_of-other}
use Rattle.program_read.proofs.WalkLemmas.{StopsAs-here}
use Rattle.program_read.proofs.forms.one_in.Goals as goal

pub returns-then-operands-ne1 : goal.returns-then-operands-ne1
returns-then-operands-ne1 c =
    StopsAs-here _ _ _ c.here.ensures (one_of-other c.args.operands.now c.if-operands-ne1.true)
