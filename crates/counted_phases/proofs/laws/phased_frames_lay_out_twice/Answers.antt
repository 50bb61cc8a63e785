use Rattle.counted_phases.proofs.Frame.{frame_twice}
use Rattle.counted_phases.proofs.laws.phased_frames_lay_out_twice.Goals as goal

pub returns : goal.returns
returns c = λ s view before old whole lo ln frame. frame_twice s view before old whole lo ln frame c.same_means_equal.ensures.looks c.flushes_run_what_is_due.ensures.bound
