use Rattle.std.proofs.Common.{rules}
use Rattle.live_session.proofs.TweenLemmas.{ranges_after}
use Rattle.live_session.proofs.live.Live.start.Goals as goal

pub invariant_of-self : goal.invariant_of-self
invariant_of-self g c =
    record { in_range = ranges_after c.start.result c.args.tween c.args.self.now.tickers c.start.new.self c.start.ensures.ok c.start.ensures.err c.requires.in_range (search rules) }
