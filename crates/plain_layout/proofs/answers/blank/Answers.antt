use Rattle.std.proofs.Common.{arith}
use Rattle.plain_layout.proofs.Lists.{blank_alone}
use Rattle.plain_layout.proofs.answers.blank.Goals as goal

pub returns-in-len1 : goal.returns-in-len1
returns-in-len1 c = blank_alone c.args.children.now (omega (arith, c.in-len1.len_at_least, c.in-len1.len_below))
