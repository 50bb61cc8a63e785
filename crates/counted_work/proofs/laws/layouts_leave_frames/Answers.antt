use Rattle.counted_work.proofs.Framed.{frames_left}
use Rattle.layout_owner.proofs.Leaving.{flush_left}
use Rattle.counted_work.proofs.Put.{put_so}
use Rattle.counted_work.proofs.laws.layouts_leave_frames.Goals as goal

pub returns-clause-left : goal.returns-clause-left
returns-clause-left c = flush_left

pub returns-clause-frames : goal.returns-clause-frames
returns-clause-frames c = frames_left

pub returns-clause-put : goal.returns-clause-put
returns-clause-put c = put_so
