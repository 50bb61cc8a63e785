use Rattle.std.proofs.Common.{◌+◌, nat_lt, not}
use Rattle.tickers.specs.Running.{is_on}
use Rattle.tickers.proofs.Apart.{none_apart, started_apart, filter_apart, without_apart, before_apart, after_apart}
use Rattle.tickers.proofs.laws.tweens_stay_apart.Goals as goal

pub returns-clause-none : goal.returns-clause-none
returns-clause-none c = none_apart

pub returns-clause-started : goal.returns-clause-started
returns-clause-started c = started_apart

pub returns-clause-cancelled : goal.returns-clause-cancelled
returns-clause-cancelled c node field = filter_apart (λ t. not (is_on node field t))

pub returns-clause-without_at : goal.returns-clause-without_at
returns-clause-without_at c = without_apart

pub returns-clause-unfinished : goal.returns-clause-unfinished
returns-clause-unfinished c now = filter_apart (λ t. nat_lt now (t.start + t.ms))

pub returns-clause-before : goal.returns-clause-before
returns-clause-before c = before_apart

pub returns-clause-after : goal.returns-clause-after
returns-clause-after c = after_apart
