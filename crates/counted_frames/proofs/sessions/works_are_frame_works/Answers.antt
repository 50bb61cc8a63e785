use Rattle.counted_frames.proofs.Going.{work_keeps_on}
use Rattle.counted_frames.proofs.sessions.works_are_frame_works.Goals as goal

pub returns : goal.returns
returns c = work_keeps_on
