use Rattle.counted_frames.proofs.Going.{fault_counted}
use Rattle.counted_frames.proofs.sessions.frames_with_faults_keep_to_their_work.Goals as goal

pub returns : goal.returns
returns c = fault_counted c.phased_layouts_keep_to_their_region.ensures.once
