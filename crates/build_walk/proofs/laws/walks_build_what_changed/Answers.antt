use Rattle.build_walk.proofs.Counting.{from_counted, filling_counted}
use Rattle.build_walk.proofs.Duly.{past_tells, none_entered}
use Rattle.build_walk.proofs.laws.walks_build_what_changed.Goals as goal

pub returns-clause-enters : goal.returns-clause-enters
returns-clause-enters c = λ from pasts old marks free phase left above values a s holders entered known waiting low long.
    from_counted from pasts c.same_means_equal.ensures.widgets holders free old marks entered.tells entered.unknown phase left above values a s long known (waiting, low)

pub returns-clause-fills : goal.returns-clause-fills
returns-clause-fills c = λ from pasts old marks free ranges left above values tree s holders entered waiting low long.
    filling_counted from pasts c.same_means_equal.ensures.widgets holders free old marks entered.tells entered.unknown ranges left above values tree s long (waiting, low)

pub returns-clause-known : goal.returns-clause-known
returns-clause-known c = λ marks defaults old next numbered.
    record { tells = past_tells marks defaults old; unknown = λ k high. none_entered defaults old next k numbered high }
