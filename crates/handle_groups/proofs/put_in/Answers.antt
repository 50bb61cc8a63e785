use Rattle.fx_handles.specs.Handle.{same}
use Rattle.handle_groups.proofs.put_in.Goals as goal

pub returns : goal.returns
unfolding same
returns c = λ k. c.in-Ok.ensures.updates.0 k
