use Rattle.tickers.proofs.Apart.{none_apart}
use Rattle.live_session.proofs.ApartLemmas.{entry_apart}
use Rattle.live_session.proofs.laws.tweens_stay_apart.Goals as goal

pub returns-clause-first : goal.returns-clause-first
returns-clause-first c s = none_apart

pub returns-clause-next : goal.returns-clause-next
returns-clause-next c = entry_apart
