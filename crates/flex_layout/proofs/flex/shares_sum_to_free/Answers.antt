use Rattle.flex_layout.proofs.Shares.{shares_of-sum}
use Rattle.flex_layout.proofs.flex.shares_sum_to_free.Goals as goal

pub returns : goal.returns
returns c = shares_of-sum
