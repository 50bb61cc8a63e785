use Rattle.std.proofs.Common.{arith}
use Rattle.build_walk.proofs.Reentering.{enter_same, filled_same}
use Rattle.build_walk.proofs.laws.walks_keep_what_is_right.Goals as goal

pub returns-clause-enters : goal.returns-clause-enters
returns-clause-enters c = λ from pasts phase left values a s holders known calm long.
    enter_same from pasts c.same_means_equal.ensures.widgets holders 0 phase left values a s long known (calm, omega arith)

pub returns-clause-fills : goal.returns-clause-fills
returns-clause-fills c = λ from pasts ranges left values tree s holders calm long.
    filled_same from pasts c.same_means_equal.ensures.widgets holders 0 ranges left values tree s long (calm, omega arith)
