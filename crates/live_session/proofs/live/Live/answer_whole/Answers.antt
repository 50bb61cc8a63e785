use Rattle.frame_session.proofs.StepLemmas.{ok_holds}
use Rattle.live_session.proofs.live.Live.answer_whole.Goals as goal

pub returns-clause-work : goal.returns-clause-work
returns-clause-work g c frames r stands known = ok_holds c.added.result (c.in_ok-end.ensures.work frames r stands known)

pub returns-clause-built : goal.returns-clause-built
returns-clause-built g c r stands = ok_holds c.added.result (c.in_ok-end.ensures.built r stands)
