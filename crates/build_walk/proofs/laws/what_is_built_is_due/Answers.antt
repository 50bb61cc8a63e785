use Rattle.build_walk.proofs.Duly.{built_due, count_is, count_due}
use Rattle.build_walk.proofs.laws.what_is_built_is_due.Goals as goal

pub returns-clause-counted : goal.returns-clause-counted
returns-clause-counted c = λ p screen old marks next root checked numbered well fresh.
    count_is c.same_means_equal.ensures.widgets p screen old marks next root checked numbered well fresh

pub returns-clause-due : goal.returns-clause-due
returns-clause-due c = built_due

pub returns-clause-bound : goal.returns-clause-bound
returns-clause-bound c = λ p screen old marks next root checked numbered well fresh.
    count_due c.same_means_equal.ensures.widgets p screen old marks next root checked numbered well fresh
