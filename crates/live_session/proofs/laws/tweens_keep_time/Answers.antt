use Rattle.live_session.proofs.TweenFieldLemmas.{tween_sets}
use Rattle.live_session.proofs.laws.tweens_keep_time.Goals as goal

pub returns : goal.returns
returns c = tween_sets
