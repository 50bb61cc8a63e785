use Rattle.counted_work.proofs.Settled.{frame_caused}
use Rattle.counted_work.proofs.laws.frames_leave_causes.Goals as goal

pub returns : goal.returns
returns c = frame_caused
