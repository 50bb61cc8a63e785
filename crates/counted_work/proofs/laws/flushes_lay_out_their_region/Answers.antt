use Rattle.counted_work.proofs.Counting.{layouts_inside}
use Rattle.counted_work.proofs.laws.flushes_lay_out_their_region.Goals as goal

pub returns : goal.returns
returns c = layouts_inside c.flushes_run_what_is_due.ensures.bound
