use Rattle.std.proofs.Common.{arith}
use Rattle.std.proofs.lemmas.Grind.{common_steps}
use Rattle.plain_layout.proofs.Lists.{placed_end}
use Rattle.plain_layout.proofs.answers.placed_each.Goals as goal

pub returns : goal.returns
returns c = grind (arith, common_steps, placed_end)
