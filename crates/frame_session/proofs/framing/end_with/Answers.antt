use Rattle.frame_session.proofs.FrameLemmas.{named_back}
use Rattle.frame_session.proofs.framing.end_with.Goals as goal

pub returns-clause-end : goal.returns-clause-end
returns-clause-end c f e = named_back c.args.fault f e
