use Rattle.live_session.proofs.ApartLemmas.{running_sets}
use Rattle.live_session.proofs.laws.running_tweens_keep_time.Goals as goal

pub returns : goal.returns
returns c = running_sets
